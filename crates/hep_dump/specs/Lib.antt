pub use Rattle.hep_core.specs.ProcessPositions as CoreStanding
pub use Rattle.hep_core.specs.CoreValues
pub mod Elements
pub mod CommonNames
pub mod Names
pub mod Faults
pub mod Waiting
pub mod StopNotes
pub mod PendingCalls
