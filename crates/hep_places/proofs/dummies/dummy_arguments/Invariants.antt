use Rattle.std.proofs.Common.{◌≡◌, ◌++◌, map, drop}
use Rattle.hep_machine.specs.Words.{names_of_occurrences}
use Rattle.hep_places.specs.DummyArguments.{dummy_found, source_in}
use Rattle.hep_places.proofs.dummies.dummy_arguments.Given as goal

abbrev pub invariant-loop-occurrence : goal.invariant-loop-occurrence
invariant-loop-occurrence l =
    l.arguments.items ++ map (dummy_found l.known.symbols.now (source_in l.known)) (names_of_occurrences (drop l.occurrence-index l.occurrence-items)) ≡ map (dummy_found l.known.symbols.now (source_in l.known)) (names_of_occurrences l.occurrence-items)
