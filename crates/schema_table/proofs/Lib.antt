mod Absent
pub mod Answered
mod Each
mod Entries
mod Lists
mod Matched
mod Missed
mod PathTexts
mod Placed
mod Reached
mod Told
