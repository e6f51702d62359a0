pub use Rattle.hep_accepted_laws.proofs.Parts as AcceptedLawsParts
pub mod ReadableBounds
pub mod StoredDummies
pub mod CommonCells
pub mod BoundDummies
pub mod ShapableCalls
mod Worked
pub mod Cells
mod Names
pub mod Dummies
pub mod BegunActivations
pub mod FoundShapes
pub mod Calls
pub mod EnteredFrames
pub mod ShapedDummies
pub mod Nodes
