pub mod Faults
pub mod Fields
pub mod Formats
pub mod Platforms
pub mod Rows
