pub use Rattle.rock_manifest.specs.Records
pub use Rattle.rock_manifest.specs.Text
pub mod Made
pub mod Rocks
