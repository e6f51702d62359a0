use Rattle.std.proofs.Common.{◌≡◌, ◌++◌, drop}
use Rattle.hep_machine.specs.Words.{names_of_occurrences}
use Rattle.hep_types.proofs.uses.names_of.Given as goal

abbrev pub invariant-loop-occurrence : goal.invariant-loop-occurrence
invariant-loop-occurrence l = l.names.items ++ names_of_occurrences (drop l.occurrence-index l.occurrences) ≡ names_of_occurrences l.occurrences
