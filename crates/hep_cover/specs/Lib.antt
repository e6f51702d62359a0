pub use Rattle.hep_why.specs.Watches as WhyWatches
pub use Rattle.hep_why.specs.Reasons as CausesReasons
pub mod OperationCounts
pub mod StatementStarts
pub mod RemainingOperations
pub mod Counts
pub mod StartMarks
pub mod CountedRuns
pub mod Coverage
pub mod Lines
pub mod Lcov
