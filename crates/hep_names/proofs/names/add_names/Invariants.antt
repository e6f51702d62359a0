use Rattle.std.proofs.Common.{◌≡◌, drop}
use Rattle.hep_machine.specs.Words.{with_names, names_of_occurrences}
use Rattle.hep_names.proofs.names.add_names.Given as goal

abbrev pub invariant-loop-occurrence : goal.invariant-loop-occurrence
invariant-loop-occurrence l = with_names l.names.keys (names_of_occurrences (drop l.occurrence-index l.occurrences)) ≡ with_names l.initial.names.keys (names_of_occurrences l.occurrences)
