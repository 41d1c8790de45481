pub mod Bad
pub mod Entries
pub mod Fields
pub mod Reading
pub mod Specs
pub mod Texts
