use Rattle.std.proofs.Common.{◌≢◌, ◌<◌, ℕ, Some, slice_get}
use Rattle.hep_event.proofs.variables.index_among.Given as goal

abbrev pub invariant-loop-index : goal.invariant-loop-index
invariant-loop-index l = (k : ℕ) → k < l.index → slice_get l.variables k ≢ Some l.variable
