pub mod Files
pub mod Items
pub mod Modules
pub mod Paths
pub mod Texts
