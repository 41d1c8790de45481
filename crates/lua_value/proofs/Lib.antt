pub mod KeyOrder
pub mod Merges
pub mod Puts
pub mod View
pub mod Walk
pub mod Left
