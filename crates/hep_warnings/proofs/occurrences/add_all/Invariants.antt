use Rattle.std.proofs.Common.{◌≡◌, drop}
use Rattle.indexmap.specs.IndexMap.{get}
use Rattle.hep_machine.specs.Words.{Name, name_eq, names_of_occurrences}
use Rattle.hep_warnings.specs.SingleOccurrences.{after_names}
use Rattle.hep_warnings.proofs.occurrences.add_all.Given as goal

abbrev pub invariant-loop-occurrence : goal.invariant-loop-occurrence
invariant-loop-occurrence l =
    (x : Name) → after_names x l.line (get name_eq l.map x) (names_of_occurrences (drop l.occurrence-index l.occurrences))
    ≡ after_names x l.line (get name_eq l.initial.map x) (names_of_occurrences l.occurrences)
