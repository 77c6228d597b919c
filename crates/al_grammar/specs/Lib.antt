pub mod Kinds
pub mod Rules
pub mod State
pub mod Laws
pub mod Whole
pub mod Skim
pub mod Gives
