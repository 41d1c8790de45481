pub mod BadFields
pub mod Gathered
pub mod Merged
pub mod Alike
pub mod Outcomes
