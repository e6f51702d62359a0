use Rattle.std.proofs.Common.{◌≡◌, ◌⊎◌, ℕ, ◌<◌, ◌≤◌, Some, slice_get}
use Rattle.hep_machine.specs.Words.{unset_cell}
use Rattle.hep_arena.proofs.arena.clear.Given as goal

abbrev pub invariant-loop-place : goal.invariant-loop-place
invariant-loop-place l =
    ((k : ℕ) → l.at ≤ k → k < l.place → slice_get l.slots k ≡ Some unset_cell) × ((k : ℕ) → (k < l.at) ⊎ (l.place ≤ k) → slice_get l.slots k ≡ slice_get l.initial.slots k)
