use Rattle.std.proofs.Common.{◌≡◌, ◌++◌, drop}
use Rattle.std.specs.List.{flat_map}
use Rattle.hep_run.specs.Diagnostics.{violation_error}
use Rattle.hep_run.proofs.diagnostics.append_violation_errors.Given as goal

abbrev pub invariant-loop-violation : goal.invariant-loop-violation
invariant-loop-violation l =
    l.text.items ++ flat_map (violation_error l.asked.format l.asked.file.now l.statements) (drop l.violation-index l.violations)
    ≡ l.initial.text.items ++ flat_map (violation_error l.asked.format l.asked.file.now l.statements) l.violations
