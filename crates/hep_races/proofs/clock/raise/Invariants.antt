use Rattle.std.proofs.Common.{◌≡◌, ◌≤◌, ◌<◌, ℕ, max, length}
use Rattle.hep_races.specs.Vectors.{clock_in}
use Rattle.hep_races.proofs.clock.raise.Given as goal

abbrev pub invariant-loop-index : goal.invariant-loop-index
invariant-loop-index l =
    ((p : ℕ) → p < l.index → clock_in l.clock.items p ≡ max (clock_in l.fn.clock.items p) (clock_in l.other p))
    × ((p : ℕ) → l.index ≤ p → clock_in l.clock.items p ≡ clock_in l.fn.clock.items p)
    × (length l.clock.items ≡ length l.fn.clock.items)
