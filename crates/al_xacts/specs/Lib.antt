pub mod Fates
pub mod Kept
pub mod Least
pub mod Marks
pub mod Snapshots
