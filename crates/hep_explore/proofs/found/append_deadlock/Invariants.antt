use Rattle.std.proofs.Common.{◌≡◌, drop}
use Rattle.hep_explore.specs.Explored.{deadlock_text}
use Rattle.hep_explore.proofs.found.append_deadlock.Given as goal

abbrev pub invariant-loop-found : goal.invariant-loop-found
invariant-loop-found l = record {
  same : l.text.items ≡ l.fn.text.items;
  rest : deadlock_text (drop l.found-index l.fn.all) l.fn.complete ≡ deadlock_text l.fn.all l.fn.complete;
}
