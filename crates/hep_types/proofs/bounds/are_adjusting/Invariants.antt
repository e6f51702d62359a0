use Rattle.std.proofs.Common.{◌≡◌, ◌||◌, is_some, drop}
use Rattle.std.specs.List.{list_all}
use Rattle.hep_machine.specs.Words.{Occurrence, value_among}
use Rattle.hep_conditions.specs.Words.{is_adjusting}
use Rattle.hep_types.proofs.bounds.are_adjusting.Given as goal

abbrev pub invariant-loop-occurrence : goal.invariant-loop-occurrence
invariant-loop-occurrence l =
    let test = λ (p : Occurrence). is_some (value_among l.constants p.name) || is_adjusting l.symbols p.name in
    list_all test (drop l.occurrence-index l.occurrences) ≡ list_all test l.occurrences
