pub mod Absence
pub mod Checks
pub mod Formats
pub mod Paths
pub mod Rows
pub mod Shapes
pub mod Visits
pub mod Walk
