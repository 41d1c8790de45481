pub use Rattle.rocks_text.specs.Files
pub use Rattle.tree_paths.specs.Places
pub use Rattle.rock_record.specs.Made
pub mod Held
pub mod Tree
