pub use Rattle.hep_replay.proofs.ReplayTurns as ReplayReplayTurns
pub use Rattle.hep_replay.proofs.SilentChoices
pub mod RunsByLots
mod MadeTranscripts
mod Worked
mod WorkedTallies
pub mod Schedules
pub mod Outcomes
mod LotDraws
pub mod Counts
pub mod Wanted
