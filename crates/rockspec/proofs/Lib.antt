mod Firsts
pub mod One
mod Several
mod Texts
