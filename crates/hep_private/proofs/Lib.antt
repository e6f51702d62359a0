pub mod StepEffects
pub mod StepRows
mod Dependence
pub mod StepCases
mod Worked
pub mod StoredCells
pub mod StoredValues
mod LastStoredPlaces
mod Constants
mod LoopEnds
pub mod Steps
pub mod AbsentUnits
mod SegmentSteps
mod Blank
mod FinishedSegments
pub mod RemadeSegments
mod KeptSegments
mod SegmentOfBatch
mod Copies
mod StableEnds
mod InPlace
pub mod OperandRoom
pub mod PrivateIsPlain
pub mod TableMoves
pub mod PrivateCodeSteps
pub mod BatchSegments
pub mod NonPrivateSteps
