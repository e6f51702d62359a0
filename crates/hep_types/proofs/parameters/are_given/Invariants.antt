use Rattle.std.proofs.Common.{◌≡◌, drop}
use Rattle.std.specs.List.{list_all}
use Rattle.hep_machine.specs.Words.{Occurrence}
use Rattle.hep_conditions.specs.Words.{is_given}
use Rattle.hep_types.proofs.parameters.are_given.Given as goal

abbrev pub invariant-loop-occurrence : goal.invariant-loop-occurrence
invariant-loop-occurrence l =
    let test = λ (p : Occurrence). is_given l.parameters p.name in
    list_all test (drop l.occurrence-index l.occurrences) ≡ list_all test l.occurrences
