use Rattle.std.proofs.Common.{◌≡◌, drop}
use Rattle.hep_conditions.specs.Words.{least_line, least_line_where}
use Rattle.hep_names.specs.Parts.{line_of}
use Rattle.hep_check.specs.Resume.{is_misplaced}
use Rattle.hep_check.proofs.resume.least_misplaced.Given as goal

abbrev pub invariant-loop-statement : goal.invariant-loop-statement
invariant-loop-statement l =
    least_line l.least (least_line_where (is_misplaced l.statements) line_of (drop l.statement-index l.statements)) ≡ least_line_where (is_misplaced l.statements) line_of l.statements
