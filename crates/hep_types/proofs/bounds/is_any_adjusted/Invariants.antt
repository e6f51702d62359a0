use Rattle.std.proofs.Common.{◌≡◌, is_none, drop}
use Rattle.std.specs.List.{list_any}
use Rattle.hep_machine.specs.Words.{Occurrence, value_among}
use Rattle.hep_types.proofs.bounds.is_any_adjusted.Given as goal

abbrev pub invariant-loop-occurrence : goal.invariant-loop-occurrence
invariant-loop-occurrence l =
    let test = λ (p : Occurrence). is_none (value_among l.constants p.name) in
    list_any test (drop l.occurrence-index l.occurrences) ≡ list_any test l.occurrences
