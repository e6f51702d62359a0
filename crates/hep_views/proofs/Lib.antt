pub mod ReadContents
pub mod Nodes
pub mod Cells
pub mod Wants
mod StoppedRuns
mod Waits
pub mod StateViews
pub mod UpwardOwners
pub mod Holders
pub mod Places
pub mod WaitingPlaces
