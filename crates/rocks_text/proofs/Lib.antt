pub mod Below
mod Lowered
pub mod Modules
