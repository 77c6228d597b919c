pub mod Characters
pub mod Convert
pub mod Days
pub mod Gives
pub mod Kinds
pub mod Order
pub mod Printed
pub mod Reading
