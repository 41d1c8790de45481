pub mod Components
pub mod Faults
pub mod Keys
pub mod Orders
pub mod Texts
