use Rattle.std.proofs.Common.{◌≡◌, drop}
use Rattle.hep_conditions.specs.Words.{least_line, least_line_where}
use Rattle.hep_names.specs.Parts.{is_miscounted, line_of}
use Rattle.hep_names.proofs.counts.least_miscounted.Given as goal

abbrev pub invariant-loop-statement : goal.invariant-loop-statement
invariant-loop-statement l = least_line l.least (least_line_where (is_miscounted l.program l.symbols) line_of (drop l.statement-index l.statement-items)) ≡ least_line_where (is_miscounted l.program l.symbols) line_of l.statement-items
