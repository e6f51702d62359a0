pub use Rattle.hep_core.specs.declared.stop.Verdict
pub use Rattle.hep_core.specs.declared.stop.Turns
pub use Rattle.hep_core.specs.declared.stop.Turn
pub use Rattle.hep_core.specs.declared.stop.ChoiceStop
pub use Rattle.hep_core.specs.declared.core_fault.ChooseFault
pub use Rattle.hep_core.specs.StateWords as States
pub use Rattle.hep_core.specs.SilentChoices
pub use Rattle.hep_core.specs.CoreValues
pub mod Lines
pub mod Choices
pub mod Histories
pub mod HistoryChoices
pub mod HistoryPrefix
pub mod Replays
pub mod Progress
