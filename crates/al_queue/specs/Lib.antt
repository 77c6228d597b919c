pub mod InWay
pub mod Least
pub mod Locks
pub mod Settled
pub mod Waits
pub mod Walk
