pub use Rattle.hep_dump.proofs.Histories
pub mod StepCases
pub mod VariableNames
pub mod TopPositions
pub mod Answered
pub mod AccessedVariables
pub mod AccessedAhead
pub mod NamedAhead
pub mod FoundVariables
pub mod Declared
pub mod Numbered
mod OwnNames
mod UnwatchedSteps
mod PureSteps
mod PlainSteps
mod ToldSteps
mod Printed
