use Rattle.std.proofs.Common.{◌≡◌, drop}
use Rattle.std.specs.List.{list_any}
use Rattle.hep_machine.specs.Words.{Target}
use Rattle.hep_conditions.specs.Words.{is_forbidden}
use Rattle.hep_storage.proofs.data_groups.is_any_forbidden.Given as goal

abbrev pub invariant-loop-target : goal.invariant-loop-target
invariant-loop-target l =
    let test = λ (t : Target). is_forbidden l.symbols t.occurrence.name in
    list_any test (drop l.target-index l.targets) ≡ list_any test l.targets
