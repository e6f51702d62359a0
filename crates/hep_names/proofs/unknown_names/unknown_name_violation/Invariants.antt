use Rattle.std.proofs.Common.{◌≡◌, drop}
use Rattle.std.specs.List.{flat_map}
use Rattle.hep_conditions.specs.Words.{first_of, first_of_two}
use Rattle.hep_names.specs.Parts as passes
use Rattle.hep_names.proofs.unknown_names.unknown_name_violation.Given as goal

abbrev pub invariant-loop-statement : goal.invariant-loop-statement
invariant-loop-statement l = first_of_two l.first (first_of (flat_map (passes.unknown_in l.program l.symbols) ((drop l.statement-index l.statement-items)))) ≡ first_of (flat_map (passes.unknown_in l.program l.symbols) (l.statement-items))
