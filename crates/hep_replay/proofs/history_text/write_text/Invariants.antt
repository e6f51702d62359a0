use Rattle.std.proofs.Common.{◌≡◌, ℕ, ◌++◌, length}
use Rattle.hep_history.specs.Runs.{entries_of}
use Rattle.hep_replay.specs.Histories.{history_text}
use Rattle.hep_replay.proofs.history_text.write_text.Given as goal

abbrev pub invariant-loop-run : goal.invariant-loop-run
invariant-loop-run l = l.text.items ++ history_text (entries_of l.runs) ≡ history_text l.history.items

abbrev pub decreases-loop-run : goal.decreases-loop-run
decreases-loop-run l = length l.runs
