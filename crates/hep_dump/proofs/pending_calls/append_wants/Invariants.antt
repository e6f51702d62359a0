use Rattle.std.proofs.Common.{◌≡◌, ◌++◌, drop}
use Rattle.std.specs.List.{flat_map}
use Rattle.hep_dump.specs.PendingCalls.{want_notes}
use Rattle.hep_dump.proofs.pending_calls.append_wants.Given as goal

abbrev pub invariant-loop-want : goal.invariant-loop-want
invariant-loop-want l =
    l.text.items ++ flat_map (want_notes l.core.core.program l.core.core.cells l.place) (drop l.want-index l.wants)
    ≡ l.initial.text.items ++ flat_map (want_notes l.core.core.program l.core.core.cells l.place) l.wants
