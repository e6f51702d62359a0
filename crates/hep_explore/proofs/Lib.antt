pub mod Turns
pub mod Independence
pub mod Kept
pub mod Closed
pub mod Bounded
pub mod Cycles
pub mod Rooms
pub mod LargerArenas
pub mod Tables
pub mod Stacks
pub mod Pure
mod PlacedAlong
mod Reached
mod PureAhead
pub mod Finished
pub mod Texts
pub mod Outcomes
mod Worked
mod WorkedTexts
pub mod ByteGroups
pub mod Codes
pub mod FoundStates
pub mod OutCells
pub mod HeldNodes
pub mod AlikeContents
pub mod AlikeEndings
pub mod KeyLists
pub mod KeyReading
mod WorkedKeys
mod MadeChoices
mod RunEnds
mod SteppedCopies
mod SearchedStates
mod TriedSteps
mod Paths
mod ListedOutcomes
mod AppendedItems
mod NoOther
mod CountedStates
