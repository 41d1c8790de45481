pub mod Code
pub mod Globals
pub mod Locals
pub mod Places
pub mod Views
