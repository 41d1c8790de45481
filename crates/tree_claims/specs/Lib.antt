pub use Rattle.tree_paths.specs.Conflicts
pub use Rattle.tree_paths.specs.Places
pub mod Claims
pub mod Clashes
pub mod Index
pub mod Rocks
