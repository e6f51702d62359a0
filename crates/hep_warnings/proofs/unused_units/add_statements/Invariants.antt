use Rattle.std.proofs.Common.{◌≡◌, ◌++◌, drop}
use Rattle.std.specs.List.{flat_map}
use Rattle.hep_warnings.specs.UnusedUnits.{names_used_by, names_used_in}
use Rattle.hep_warnings.proofs.unused_units.add_statements.Given as goal

abbrev pub invariant-loop-statement : goal.invariant-loop-statement
invariant-loop-statement l = l.used.items ++ flat_map (names_used_by l.symbols) (drop l.statement-index l.statement-items) ≡ l.initial.used.items ++ names_used_in l.symbols
