pub mod Faults
pub mod Listings
pub mod Places
pub mod Unsynced
