use Rattle.std.proofs.Common.{◌≡◌, drop}
use Rattle.std.specs.List.{flat_map}
use Rattle.hep_conditions.specs.Words.{function_types, first_of, first_of_two}
use Rattle.hep_names.specs.Parts.{untyped}
use Rattle.hep_names.proofs.untyped_names.first_untyped.Given as goal

abbrev pub invariant-loop-occurrence : goal.invariant-loop-occurrence
invariant-loop-occurrence l = first_of_two l.first (first_of (flat_map (untyped (function_types l.program) l.symbols l.line) (drop l.occurrence-index l.occurrences))) ≡ first_of (flat_map (untyped (function_types l.program) l.symbols l.line) l.occurrences)
