pub mod Order
pub mod Keys
pub mod Sought
pub mod Kept
