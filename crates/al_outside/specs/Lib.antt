pub mod Adapted
pub mod Faults
pub mod Holding
pub mod Memory
pub mod Reading
