pub use Rattle.hep_advance.proofs.RunsToBreakpoint
pub mod TurnRows
pub mod MachineTurns
pub mod Folding
mod Ranges
pub mod Beginnings
