pub use Rattle.rock_files.specs.Gathering
pub use Rattle.rock_record.specs.Made
pub use Rattle.rockspec.specs.Specs
pub mod Contents
pub mod Making
