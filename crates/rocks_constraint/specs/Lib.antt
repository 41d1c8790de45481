pub mod Alphabet
pub mod Faults
pub mod Grammar
pub mod Meets
pub mod Printed
pub mod Wanted
