use Rattle.std.proofs.Common.{◌≡◌, ◌∷◌, ◌++◌, replicate}
use Rattle.hep_explore.proofs.search.append_turns.Given as goal

abbrev pub invariant-loop : goal.invariant-loop
invariant-loop l = l.choices.items ≡ l.fn.choices.items ++ (l.fn.origin.process ∷ replicate l.counter l.fn.origin.process)
