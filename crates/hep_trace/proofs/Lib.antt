pub mod Numbers
pub mod OwnNames
pub mod LoopEnds
pub mod PlaceWords
pub mod ReplyValues
pub mod PurgedAhead
pub mod DeclaredNames
pub mod Parents
pub mod FallingNumbers
pub mod KeptUnits
pub mod Ancestors
pub mod Climbs
pub mod ListedWaits
pub mod Entries
pub mod StackHeights
pub mod TopLevels
pub mod Faults
pub mod WaitLines
pub mod FreedFrames
pub mod TargetTexts
mod NextOperations
mod SeenBefore
mod MadeTurns
mod Lines
mod LoopVariables
mod TargetNames
mod ObservedProcesses
mod ObservedSteps
mod TracedTurns
mod EntriesLeft
mod EqualEntries
mod UnwatchedTurns
