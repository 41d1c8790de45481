pub mod One
pub mod Fitting
pub mod Integers
pub mod Names
