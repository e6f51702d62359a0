use Rattle.std.proofs.Common.{◌≡◌, ◌∷◌, drop, length}
use Rattle.hep_history.specs.Runs.{entries_of}
use Rattle.hep_history.proofs.entries.Entries.pass.Given as goal

abbrev pub invariant-loop-here : goal.invariant-loop-here
invariant-loop-here l = record {
  rest : drop l.left (entries_of (l.self-inside.run ∷ l.self-inside.runs)) ≡ drop l.count l.fn.self;
  here : l.here ≡ l.self-inside.run.count;
}

abbrev pub decreases-loop-here : goal.decreases-loop-here
decreases-loop-here l = length l.self-inside.runs
