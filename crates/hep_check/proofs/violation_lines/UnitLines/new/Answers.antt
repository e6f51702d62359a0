use Rattle.std.proofs.Common.{◌∙◌, ap}
use Rattle.hep_conditions.specs.Words.{jump_violations, label_violations}
use Rattle.hep_check.specs.AllViolations.{has_line}
use Rattle.hep_check.proofs.violation_lines.UnitLines.new.Goals as goal

pub returns : goal.returns
returns c =
    let same = c.in_ok-table.ensures ∙ c.statements.ensures in
    record {
      labels = λ line. c.in_ok-labels.ensures line ∙ ap (λ u. has_line (label_violations u) line) same;
      structure = c.in_ok-structure.ensures;
      jumps = λ line. c.in_ok-jumps.ensures line ∙ ap (λ u. has_line (jump_violations u) line) same;
      values = c.in_ok-values.ensures;
    }
