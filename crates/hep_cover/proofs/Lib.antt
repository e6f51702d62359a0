pub use Rattle.hep_why.proofs.FoundReasons as WhyFoundReasons
pub mod StatementCode
mod TakenOperations
pub mod StartMarks
pub mod CountedSteps
