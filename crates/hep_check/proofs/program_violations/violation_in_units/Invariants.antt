use Rattle.std.proofs.Common.{◌≡◌, drop}
use Rattle.std.specs.List.{flat_map}
use Rattle.hep_conditions.specs.Words.{violations_in, first_of, first_of_two}
use Rattle.hep_check.proofs.program_violations.violation_in_units.Given as goal

abbrev pub invariant-loop-symbols : goal.invariant-loop-symbols
invariant-loop-symbols l = first_of_two l.first (first_of (flat_map (violations_in l.program) (drop l.symbols-index l.symbols-items))) ≡ first_of (flat_map (violations_in l.program) l.symbols-items)
