pub mod Strictest
