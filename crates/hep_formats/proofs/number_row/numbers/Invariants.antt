use Rattle.std.proofs.Common.{◌≡◌, ◌++◌, ◌+◌, ◌-◌}
use Rattle.std.specs.List.{range_with_len}
use Rattle.hep_formats.proofs.number_row.numbers.Given as goal

abbrev pub invariant-loop-before : goal.invariant-loop-before
invariant-loop-before l = l.numbers.items ++ range_with_len (l.first + l.before) (l.count - l.before) ≡ range_with_len l.first l.count
