use Rattle.std.proofs.Common.{◌≡◌, ◌++◌, drop}
use Rattle.hep_conditions.specs.Words.{indexed_from, indexed_statements}
use Rattle.hep_control.specs.Structure.{lines_alone}
use Rattle.hep_control.proofs.structure.add_statements.Given as goal

abbrev pub invariant-loop-index : goal.invariant-loop-index
invariant-loop-index l =
    l.lines.items ++ lines_alone l.labels l.loop_variables (indexed_from l.index (drop l.index l.labels))
    ≡ l.initial.lines.items ++ lines_alone l.labels l.loop_variables (indexed_statements l.labels)
