use Rattle.std.proofs.Common.{◌≡◌, ℕ, length}
use Rattle.hep_races.specs.Vectors.{clock_of_process}
use Rattle.hep_races.proofs.clocks.open.Given as goal

abbrev pub invariant-loop-index : goal.invariant-loop-index
invariant-loop-index l =
    ((p q : ℕ) → clock_of_process l.processes.items p q ≡ clock_of_process l.fn.processes.items p q) × (length l.processes.items ≡ l._index)
