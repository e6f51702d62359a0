use Rattle.std.proofs.Common.{◌≡◌, not, drop}
use Rattle.std.specs.List.{list_any}
use Rattle.hep_machine.specs.Words.{DataValue}
use Rattle.hep_conditions.specs.Words.{is_value}
use Rattle.hep_storage.proofs.data_groups.is_any_no_value.Given as goal

abbrev pub invariant-loop-value : goal.invariant-loop-value
invariant-loop-value l =
    let test = λ (v : DataValue). not (is_value l.constants v) in
    list_any test (drop l.value-index l.values) ≡ list_any test l.values
