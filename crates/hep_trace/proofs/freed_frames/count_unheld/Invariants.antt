use Rattle.std.proofs.Common.{◌≡◌, ◌<◌, ℕ, Some, false, slice_get}
use Rattle.hep_core.specs.CoreValues.{state_of}
use Rattle.hep_machine.specs.Words.{is_held}
use Rattle.hep_trace.proofs.freed_frames.count_unheld.Given as goal

abbrev pub invariant-loop-index : goal.invariant-loop-index
invariant-loop-index l = (k a : ℕ) → k < l.index → slice_get l.activations k ≡ Some a → is_held (state_of l.core.core) a ≡ false
