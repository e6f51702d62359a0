use Rattle.std.proofs.Common.{◌≡◌, ◌++◌, drop, []}
use Rattle.hep_control.specs.Sweep.{lines_swept}
use Rattle.hep_control.proofs.sweep.add_met.Given as goal

abbrev pub invariant-loop-event : goal.invariant-loop-event
invariant-loop-event l =
    l.lines.items ++ lines_swept l.values.keys (drop l.event-index l.event-items) ≡ l.initial.lines.items ++ lines_swept [] l.event-items
