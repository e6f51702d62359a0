use Rattle.std.proofs.Common.{◌≡◌, ◌++◌, drop}
use Rattle.hep_types.specs.AmbiguityLines as passes
use Rattle.hep_types.proofs.letters.add_ranges.Given as goal

abbrev pub invariant-loop-range : goal.invariant-loop-range
invariant-loop-range l = l.found.items ++ passes.ranges_at l.line (drop l.range-index l.ranges) ≡ l.initial.found.items ++ passes.ranges_at l.line l.ranges
