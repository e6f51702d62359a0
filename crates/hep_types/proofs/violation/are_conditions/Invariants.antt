use Rattle.std.proofs.Common.{◌≡◌, drop}
use Rattle.std.specs.List.{list_all}
use Rattle.hep_source.specs.declared.declaration.ValueType.TheVariants.{Logical}
use Rattle.hep_conditions.specs.Words.{function_types, is_typed_as}
use Rattle.hep_types.proofs.violation.are_conditions.Given as goal

abbrev pub invariant-loop-condition : goal.invariant-loop-condition
invariant-loop-condition l =
    let test = is_typed_as (function_types l.program) l.symbols Logical in
    list_all test (drop l.condition-index l.conditions) ≡ list_all test l.conditions
