use Rattle.std.proofs.Common.{◌≡◌, ◌++◌, replicate}
use Rattle.hep_formats.proofs.lane_row.pad.Given as goal

abbrev pub invariant-loop : goal.invariant-loop
invariant-loop l = l.row.items ≡ l.fn.row.items ++ replicate l.counter 32
