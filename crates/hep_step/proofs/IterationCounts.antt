-- Iteration counts of DOs, passed on. Declares nothing.
pub use Rattle.hep_cells.proofs.IterationCounts.{iterations_are}
