pub mod Conflicts
pub mod RowConflicts
