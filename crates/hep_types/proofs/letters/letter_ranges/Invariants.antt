use Rattle.std.proofs.Common.{◌≡◌, ◌++◌, drop}
use Rattle.hep_conditions.specs.Names as conditions
use Rattle.hep_types.proofs.letters.letter_ranges.Given as goal

abbrev pub invariant-loop-statement : goal.invariant-loop-statement
invariant-loop-statement l = l.found.items ++ conditions.letter_ranges_of (drop l.statement-index l.unit) ≡ conditions.letter_ranges_of l.unit
