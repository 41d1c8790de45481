pub mod Weights
pub mod Joins
pub mod Texts
pub mod Names
pub mod Values
pub mod Finding
pub mod Running
pub mod Laws
