pub mod FaultLemmas
pub mod Numbers
pub mod Parts
pub mod Values
pub mod Runs
pub mod Padding
pub mod OrderLaws
pub mod RevisionLaws
