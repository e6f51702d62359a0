use Rattle.std.proofs.Common.{◌≡◌, ℕ, length}
use Rattle.hep_races.specs.Vectors.{clock_in}
use Rattle.hep_races.proofs.clock.grow.Given as goal

abbrev pub invariant-loop-index : goal.invariant-loop-index
invariant-loop-index l = ((p : ℕ) → clock_in l.clock.items p ≡ clock_in l.fn.clock.items p) × (length l.clock.items ≡ l._index)
