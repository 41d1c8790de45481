pub mod Forms
pub mod Reading
pub mod Orders
pub mod Found
