pub mod Clearing
pub mod FileMaps
pub mod RenameLaws
