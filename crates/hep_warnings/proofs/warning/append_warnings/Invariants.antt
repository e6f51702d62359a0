use Rattle.std.proofs.Common.{◌≡◌, ◌++◌, drop}
use Rattle.std.specs.List.{flat_map}
use Rattle.hep_warnings.specs.Lines.{warning_line, warning_text}
use Rattle.hep_warnings.proofs.warning.append_warnings.Given as goal

abbrev pub invariant-loop-warning : goal.invariant-loop-warning
invariant-loop-warning l =
    l.text.items ++ flat_map warning_line (drop l.warning-index l.warnings) ≡ l.initial.text.items ++ warning_text l.warnings
