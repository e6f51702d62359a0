use Rattle.std.proofs.Common.{◌≡◌, ◌++◌, drop, map}
use Rattle.hep_control.specs.Nesting.{value_of_end, ends_from, values_in}
use Rattle.hep_control.proofs.nesting.add_ends.Given as goal

abbrev pub invariant-loop-division : goal.invariant-loop-division
invariant-loop-division l =
    l.events.items ++ map value_of_end (ends_from l.block.start (drop l.division-index l.division-items) l.block.end) ≡ l.initial.events.items ++ values_in l.block
