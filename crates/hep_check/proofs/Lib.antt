pub mod NotedNames
pub mod Walk
pub mod LineSets
pub mod Members
pub mod StatementLines
pub mod Sound
pub mod Complete
pub mod FirstLines
pub mod FirstOfSeveral
mod OtherViolations
pub mod FrameSizes
mod Rejected
mod Units
mod Worked
