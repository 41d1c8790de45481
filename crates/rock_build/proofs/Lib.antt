mod Answering
mod FilesFound
pub mod OneRock
mod PathTexts
mod Planned
mod Sorted
mod WellMade
