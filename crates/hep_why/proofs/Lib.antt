mod CycleLinks
mod CycleLists
pub mod WaitNames
mod ProcessCycles
mod OrderedReasons
mod ReasonLines
mod ReadyCounts
mod RotatedCycles
mod CycleWalks
mod KeptUnits
mod WatchUpdates
mod ListedWatches
pub mod FoundReasons
pub mod ReplayedRanges
mod WatchedReplays
mod FoundChanges
mod NextNames
