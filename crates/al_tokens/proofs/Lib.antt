pub mod Runs
pub mod Starts
pub mod Unique
pub mod Fronts
mod Vectors
