use Rattle.std.proofs.Common.{◌≡◌, ◌+◌, ◌-◌, ◌++◌, ℕ, List, max}
use Rattle.hep_machine.specs.declared.event.Entry.{Entry}
use Rattle.hep_diff.specs.Differences.{made_in, processes_from, processes_text}
use Rattle.hep_diff.specs.Sides.{IsSide}
use Rattle.hep_diff.proofs.diff.append_all.Given as goal

abbrev pub invariant-loop-before : goal.invariant-loop-before
invariant-loop-before l =
    (front : ℕ) (entries others : List Entry) → IsSide front entries l.first → IsSide front others l.second
    → l.text.items ++ processes_from l.first.core.core.program entries others front (l.before + 1) (max (made_in l.first.core.core.program entries) (made_in l.first.core.core.program others) - l.before)
    ≡ l.fn.text.items ++ processes_text l.first.core.core.program entries others front
