pub mod Ascending
pub mod Links
pub mod Lines
pub mod Met
