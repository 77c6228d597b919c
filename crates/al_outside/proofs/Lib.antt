pub mod Giving
pub mod Growing
pub mod Samples
