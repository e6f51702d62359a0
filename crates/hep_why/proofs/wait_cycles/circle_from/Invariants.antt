use Rattle.std.proofs.Common.{◌≡◌, ◌-◌, ◌++◌, List, ℕ, length}
use Rattle.std.specs.Option.{option_map}
use Rattle.hep_why.specs.WaitCycles.{circle_from}
use Rattle.hep_why.proofs.wait_cycles.circle_from.Given as goal

abbrev pub invariant-loop : goal.invariant-loop
invariant-loop l =
    option_map (λ (js : List ℕ). l.indexes.items ++ js) (circle_from l.nexts l.first (length l.nexts - l.counter) l.at)
    ≡ circle_from l.nexts l.first (length l.nexts) l.first
