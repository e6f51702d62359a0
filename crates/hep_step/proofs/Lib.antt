pub mod Elements
pub mod WorkedAddresses
pub mod RunningActivations
pub mod IterationCounts
pub mod ReplySteps
pub mod Frames
pub mod Items
pub mod LoopSteps
pub mod Operations
pub mod ReadySteps
pub mod References
pub mod PassedEntries
pub mod ReadyToPass
mod WorkedPassing
mod WorkedChanges
pub mod PlainSteps
pub mod EmptiedRanges
pub mod PurgedCells
pub mod PurgeTargets
pub mod Purges
mod WorkedPurges
pub mod TargetCounts
