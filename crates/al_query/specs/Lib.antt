pub mod Origins
pub mod Rows
pub mod Progress
pub mod GoingOn
