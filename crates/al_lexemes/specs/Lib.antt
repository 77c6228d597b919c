pub mod Words
pub mod Classes
pub mod Faults
pub mod Answer
