pub use Rattle.hep_core.proofs.ProcessesOut
pub use Rattle.hep_core.proofs.Histories
pub use Rattle.hep_core.proofs.SilentChoices
pub mod Readings
pub mod Digits
pub mod InRuns
pub mod HistoryPrefixes
pub mod ReplayTurns
mod ChoiceRows
mod Worked
