use Rattle.std.proofs.Common.{◌≡◌, ◌++◌, replicate}
use Rattle.hep_replay.proofs.history_choices.append_alike.Given as goal

abbrev pub invariant-loop : goal.invariant-loop
invariant-loop l = l.choices.items ≡ l.fn.choices.items ++ replicate l.counter l.run.process
