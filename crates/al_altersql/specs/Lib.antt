pub mod Alter
