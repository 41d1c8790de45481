pub mod Printed
pub mod Quoted
pub mod Steps
