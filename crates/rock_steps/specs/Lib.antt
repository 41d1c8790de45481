pub use Rattle.rock_parts.specs.Parts
pub use Rattle.rock_record.specs.Made
pub mod Steps
