pub mod Parts
pub mod Members
pub mod Agreed
pub mod Nested
pub mod NameMeanings
pub mod Operands
pub mod Fixed
pub mod StatementForms
pub mod Executed
pub mod Valued
pub mod Shaped
mod Assigned
mod Coded
pub mod AcceptedFacts
pub mod Starts
pub mod Rights
pub mod Placed
pub mod CodedValues
mod Shapes
pub mod Arrays
pub mod CodedCalls
mod Worked
pub mod FilledTrees
pub mod PartlyEvaluated
pub mod References
pub mod Levels
pub mod RunCalls
pub mod Closed
pub mod Actuals
