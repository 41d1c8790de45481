pub use Rattle.rocks_text.specs.Files
pub mod Moves
pub mod Performing
