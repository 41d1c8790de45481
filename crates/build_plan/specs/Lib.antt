pub mod Entries
pub mod Plans
pub mod Steps
pub mod Texts
