pub use Rattle.hep_fast.proofs.StepRows as Pushed
pub mod KeptTurns
pub mod SilentTurns
pub mod RunsToBreakpoint
