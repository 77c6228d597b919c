pub mod Layers
pub mod Vectors
pub mod Ways
