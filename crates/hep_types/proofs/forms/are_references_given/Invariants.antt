use Rattle.std.proofs.Common.{◌≡◌, drop, map}
use Rattle.std.specs.List.{list_all}
use Rattle.hep_conditions.specs.Words.{function_types, is_reference_given}
use Rattle.hep_names.specs.Lists.{listed}
use Rattle.hep_types.proofs.forms.are_references_given.Given as goal

abbrev pub invariant-loop-reference : goal.invariant-loop-reference
invariant-loop-reference l =
    let test = is_reference_given (function_types l.program) l.symbols in
    list_all test (map listed (drop l.reference-index l.references)) ≡ list_all test (map listed l.references)
