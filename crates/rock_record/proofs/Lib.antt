pub mod Places
pub mod RockRecords
pub mod RockspecNames
