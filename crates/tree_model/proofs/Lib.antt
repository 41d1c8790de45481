pub mod OwnPaths
pub mod PathTies
pub mod Rows
mod LuaVersion
mod Changing
mod ItemPairs
mod Meeting
mod Provided
mod Rising
mod TreeFiles
