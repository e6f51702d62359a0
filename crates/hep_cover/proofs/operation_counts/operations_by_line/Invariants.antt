use Rattle.std.proofs.Common.{◌≡◌, drop}
use Rattle.hep_cover.specs.StatementStarts.{operations_by_line, operations_in}
use Rattle.hep_cover.proofs.operation_counts.operations_by_line.Given as goal

abbrev pub invariant-loop-unit : goal.invariant-loop-unit
invariant-loop-unit l = operations_in (drop l.unit l.image) l.found.items ≡ operations_by_line l.image l.lines
