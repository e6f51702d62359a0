use Rattle.std.proofs.Common.{◌≡◌, drop}
use Rattle.hep_machine.specs.Words.{with_names, names_of_occurrences}
use Rattle.hep_warnings.proofs.unused_names.add_all_distinct.Given as goal

abbrev pub invariant-loop-occurrence : goal.invariant-loop-occurrence
invariant-loop-occurrence l =
    with_names l.distinct.keys (names_of_occurrences (drop l.occurrence-index l.occurrences)) ≡ with_names l.initial.distinct.keys (names_of_occurrences l.occurrences)
