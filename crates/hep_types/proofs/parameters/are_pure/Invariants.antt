use Rattle.std.proofs.Common.{◌≡◌, drop, map}
use Rattle.std.specs.List.{list_all}
use Rattle.hep_machine.specs.Words.{listed_meaning}
use Rattle.hep_conditions.specs.Words.{NameWithList, is_pure}
use Rattle.hep_names.specs.Lists.{listed}
use Rattle.hep_types.proofs.parameters.are_pure.Given as goal

abbrev pub invariant-loop-name : goal.invariant-loop-name
invariant-loop-name l =
    let test = λ (r : NameWithList). is_pure (listed_meaning l.symbols r.occurrence.name) in
    list_all test (map listed (drop l.name-index l.names)) ≡ list_all test (map listed l.names)
