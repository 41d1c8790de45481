pub use Rattle.rock_build.specs.Contents
pub mod Asking
pub mod Fetched
pub mod Making
pub mod Rockspecs
pub mod Search
