pub mod OriginRows
pub mod Pieces
pub mod Stays
pub mod Unseen
pub mod Vectors
