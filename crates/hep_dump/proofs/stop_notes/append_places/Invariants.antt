use Rattle.std.proofs.Common.{◌≡◌, suc, ◌++◌, ◌-◌, length}
use Rattle.hep_core.specs.CoreValues.{state_of}
use Rattle.hep_dump.specs.StopNotes as words
use Rattle.hep_dump.proofs.stop_notes.append_places.Given as goal

abbrev pub invariant-loop-before : goal.invariant-loop-before
invariant-loop-before l =
    l.text.items ++ words.places_notes l.core.core.program l.core.core.history (suc l.before) (length (state_of l.core.core).processes - l.before)
    ≡ l.initial.text.items ++ words.all_places_notes l.core.core.program l.core.core.history
