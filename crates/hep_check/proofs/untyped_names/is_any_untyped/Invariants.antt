use Rattle.std.proofs.Common.{◌≡◌, drop}
use Rattle.std.specs.List.{list_any}
use Rattle.hep_conditions.specs.Words.{function_types}
use Rattle.hep_check.specs.AllViolations.{is_untyped_at}
use Rattle.hep_check.proofs.untyped_names.is_any_untyped.Given as goal

abbrev pub invariant-loop-occurrence : goal.invariant-loop-occurrence
invariant-loop-occurrence l =
    list_any (is_untyped_at (function_types l.program) l.symbols) (drop l.occurrence-index l.occurrences)
    ≡ list_any (is_untyped_at (function_types l.program) l.symbols) l.occurrences
