use Rattle.std.proofs.Common.{◌≡◌, ◌++◌, None, drop, map}
use Rattle.indexmap.specs.IndexMap.{get}
use Rattle.hep_control.specs.Ranges.{do_range}
use Rattle.hep_machine.specs.Words.{name_eq}
use Rattle.hep_control.specs.Nesting.{lines_shared}
use Rattle.hep_control.proofs.nesting.add_shared.Given as goal

abbrev pub invariant-loop-range : goal.invariant-loop-range
invariant-loop-range l =
    l.lines.items ++ lines_shared l.unit (get name_eq l.last.map) (map do_range (drop l.range-index l.ranges))
    ≡ l.initial.lines.items ++ lines_shared l.unit (λ x. None) (map do_range l.ranges)
