use Rattle.std.proofs.Common.{◌≡◌, ℕ, Some, drop}
use Rattle.hep_conditions.specs.Words.{least_line, least_line_of}
use Rattle.hep_check.proofs.violation_lines.LineSet.first.Given as goal

abbrev pub invariant-loop-line : goal.invariant-loop-line
invariant-loop-line l = least_line l.least (least_line_of (λ (line : ℕ). Some line) (drop l.line-index l.line-items)) ≡ least_line_of (λ (line : ℕ). Some line) l.line-items
