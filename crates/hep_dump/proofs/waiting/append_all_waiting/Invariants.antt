use Rattle.std.proofs.Common.{◌≡◌, suc, ◌++◌, ◌-◌, length}
use Rattle.hep_core.specs.CoreValues.{state_of}
use Rattle.hep_dump.specs.Waiting as words
use Rattle.hep_dump.proofs.waiting.append_all_waiting.Given as goal

abbrev pub invariant-loop-listed : goal.invariant-loop-listed
invariant-loop-listed l =
    l.text.items ++ words.waiting_text (words.told_text l.long l.core.core.program) l.core.core.program l.core.core.history (suc l.last) (length (state_of l.core.core).processes - l.last)
    ≡ l.initial.text.items ++ words.all_waiting_text l.long l.core.core.program l.core.core.history

abbrev pub decreases-loop-listed : goal.decreases-loop-listed
decreases-loop-listed l = length (state_of l.core.core).processes - l.last
