use Rattle.std.proofs.Common.{◌≡◌, ◌++◌, replicate}
use Rattle.hep_history.specs.Runs.{entry_of}
use Rattle.hep_replay.specs.Histories.{history_text}
use Rattle.hep_replay.proofs.history_text.append_run.Given as goal

abbrev pub invariant-loop : goal.invariant-loop
invariant-loop l = l.text.items ≡ l.fn.text.items ++ history_text (replicate l.counter (entry_of l.fn.run))
