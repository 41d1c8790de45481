pub mod Clashing
pub mod Held
pub mod Listings
