use Rattle.std.proofs.Common.{◌≡◌, ◌++◌, drop}
use Rattle.std.specs.List.{flat_map}
use Rattle.hep_machine.specs.Words.{occurrences_in}
use Rattle.hep_warnings.proofs.filled_names.add_in_all.Given as goal

abbrev pub invariant-loop-expression : goal.invariant-loop-expression
invariant-loop-expression l =
    l.found.items ++ flat_map (occurrences_in l.symbols) (drop l.expression-index l.expressions)
    ≡ l.initial.found.items ++ flat_map (occurrences_in l.symbols) l.expressions
