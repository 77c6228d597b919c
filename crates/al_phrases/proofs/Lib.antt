pub mod WordLaws
pub mod TypeLaws
pub mod ExpressionLaws
pub mod RowLaws
pub mod ColumnLaws
pub mod NameKinds
mod Vectors
mod CanonicalNodes
mod CanonicalRows
mod CanonicalLaws
pub mod CanonicalUnplaced
