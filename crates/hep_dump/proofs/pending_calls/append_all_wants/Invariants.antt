use Rattle.std.proofs.Common.{◌≡◌, suc, ◌++◌, ◌-◌, length}
use Rattle.hep_core.specs.CoreValues.{state_of}
use Rattle.hep_dump.specs.PendingCalls as words
use Rattle.hep_dump.proofs.pending_calls.append_all_wants.Given as goal

abbrev pub invariant-loop-before : goal.invariant-loop-before
invariant-loop-before l =
    l.text.items ++ words.wants_from l.core.core.program l.core.core.cells l.core.core.history (suc l.before) (length (state_of l.core.core).processes - l.before)
    ≡ l.initial.text.items ++ words.all_wants_notes l.core.core.program l.core.core.cells l.core.core.history
