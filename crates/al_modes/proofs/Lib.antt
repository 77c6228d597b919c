pub mod RowTable
pub mod Table
