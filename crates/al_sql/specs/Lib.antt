pub mod Phrases
pub mod Transactions
pub mod Tables
pub mod Rows
pub mod Queries
pub mod Scripts
