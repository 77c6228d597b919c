pub mod Comes
pub mod Kept
pub mod Least
pub mod Vectors
pub mod Walks
