pub mod Fewest
pub mod Moved
pub mod PlaceOrder
pub mod Taken
