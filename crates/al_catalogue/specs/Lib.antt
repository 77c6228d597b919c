pub mod Tables
pub mod Names
pub mod Changes
pub mod Indexed
