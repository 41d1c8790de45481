pub mod Folders
pub mod Meanings
pub mod Places
