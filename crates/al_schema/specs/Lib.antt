pub mod Slots
pub mod Naming
pub mod Constraints
pub mod Layout
pub mod Laws
