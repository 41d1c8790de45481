pub use Rattle.rocks_text.specs.Files
pub mod Conflicts
pub mod Places
