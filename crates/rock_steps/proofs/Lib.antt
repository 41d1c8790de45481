mod BuiltFiles
mod BuiltParts
mod FirstParts
pub mod GoodFiles
mod InFolders
mod Made
mod Recipes
mod TakenFiles
