use Rattle.std.proofs.Common.{◌≡◌, drop, map}
use Rattle.std.specs.List.{list_all}
use Rattle.hep_conditions.specs.Words.{fits_reference, function_types}
use Rattle.hep_names.specs.Lists.{listed}
use Rattle.hep_types.proofs.argument_association.are_references_fitting.Given as goal

abbrev pub invariant-loop-reference : goal.invariant-loop-reference
invariant-loop-reference l = list_all (fits_reference (function_types l.program) l.program l.symbols) (map listed (drop l.reference-index l.references)) ≡ list_all (fits_reference (function_types l.program) l.program l.symbols) (map listed l.references)
