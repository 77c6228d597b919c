pub mod Changes
pub mod Kept
pub mod Versions
pub mod Visible
