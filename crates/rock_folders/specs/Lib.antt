pub use Rattle.rock_manifest.specs.Records
pub use Rattle.rockspec.specs.Specs
pub use Rattle.tree_sets.specs.Trees
pub mod Folders
pub mod Found
pub mod Steps
