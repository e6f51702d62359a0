use Rattle.std.proofs.Common.{◌≡◌, ℕ, ◌++◌, length}
use Rattle.hep_history.specs.Runs.{entries_of}
use Rattle.hep_replay.specs.HistoryChoices.{choices_in}
use Rattle.hep_replay.proofs.history_choices.choices_of_history.Given as goal

abbrev pub invariant-loop-run : goal.invariant-loop-run
invariant-loop-run l = l.choices.items ++ choices_in (entries_of l.runs) ≡ choices_in l.history.items

abbrev pub decreases-loop-run : goal.decreases-loop-run
decreases-loop-run l = length l.runs
