pub mod Named
pub mod Shadows
pub mod Taken
pub mod Unset
