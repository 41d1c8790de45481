pub use Rattle.rock_parts.specs.Parts
pub mod Faults
pub mod Gathering
pub mod Taking
pub mod Texts
