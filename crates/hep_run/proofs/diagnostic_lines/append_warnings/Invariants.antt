use Rattle.std.proofs.Common.{◌≡◌, ◌++◌, drop}
use Rattle.std.specs.List.{flat_map}
use Rattle.hep_run.specs.Diagnostics.{warning_text}
use Rattle.hep_run.proofs.diagnostic_lines.append_warnings.Given as goal

abbrev pub invariant-loop-warning : goal.invariant-loop-warning
invariant-loop-warning l =
    l.text.items ++ flat_map (warning_text l.asked.format l.asked.file.now) (drop l.warning-index l.warnings)
    ≡ l.initial.text.items ++ flat_map (warning_text l.asked.format l.asked.file.now) l.warnings
