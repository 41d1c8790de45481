pub mod Appending
pub mod Judging
pub mod KeyPaths
pub mod RecordPaths
pub mod RecordTests
pub mod RockspecTests
pub mod SpotsInRows
pub mod Texts
