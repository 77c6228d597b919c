pub mod Splits
pub mod TextLaws
pub mod Tables
pub mod Quotes
pub mod Cuts
pub mod Numbers
pub mod Walks
pub mod Trials
pub mod NameTexts
pub mod FrontLaws
pub mod FrontReads
mod Vectors
