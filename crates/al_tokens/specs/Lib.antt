pub mod Begun
pub mod Bytes
pub mod Signs
pub mod Tokens
