mod FromWords
mod Rooting
mod WordLemmas
