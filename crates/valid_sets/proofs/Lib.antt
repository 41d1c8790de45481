pub mod EmptySet
pub mod OneSet
pub mod SameParts
