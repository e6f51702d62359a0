pub use Rattle.hep_event.specs.Traces as EventTraces
pub use Rattle.hep_replay.specs.Replays
pub use Rattle.hep_replay.specs.Progress
pub mod WaitNames
pub mod LatestChanges
pub mod WaitCycles
pub mod Lines
pub mod CycleMarks
pub mod Reasons
pub mod CycleLaws
pub mod Watches
