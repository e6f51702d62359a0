use Rattle.std.proofs.Common.{◌≡◌, ◌++◌, drop}
use Rattle.std.specs.List.{flat_map}
use Rattle.hep_warnings.specs.Asynchronous.{names_filled, names_filled_by}
use Rattle.hep_warnings.proofs.filled_names.names_filled.Given as goal

abbrev pub invariant-loop-statement : goal.invariant-loop-statement
invariant-loop-statement l =
    l.names.items ++ flat_map (names_filled_by l.symbols) (drop l.statement-index l.statement-items) ≡ names_filled l.symbols
