pub mod Bisection
pub mod OrderLaws
pub mod SoughtLaws
pub mod Vectors
