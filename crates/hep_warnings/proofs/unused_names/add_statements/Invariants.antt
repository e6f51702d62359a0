use Rattle.std.proofs.Common.{◌≡◌, ◌++◌, drop}
use Rattle.std.specs.List.{flat_map}
use Rattle.hep_warnings.specs.UnusedNames.{name_warnings_by}
use Rattle.hep_warnings.proofs.unused_names.add_statements.Given as goal

abbrev pub invariant-loop-statement : goal.invariant-loop-statement
invariant-loop-statement l =
    l.found.items ++ flat_map (name_warnings_by l.unit) (drop l.statement-index l.statements) ≡ l.initial.found.items ++ flat_map (name_warnings_by l.unit) l.statements
