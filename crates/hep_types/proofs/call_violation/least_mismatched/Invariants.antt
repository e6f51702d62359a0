use Rattle.std.proofs.Common.{◌≡◌, drop}
use Rattle.hep_conditions.specs.Words.{least_line, least_line_where}
use Rattle.hep_names.specs.Parts.{line_of}
use Rattle.hep_types.specs.CallPasses.{is_mismatched}
use Rattle.hep_types.proofs.call_violation.least_mismatched.Given as goal

abbrev pub invariant-loop-statement : goal.invariant-loop-statement
invariant-loop-statement l = least_line l.least (least_line_where (is_mismatched l.program l.symbols) line_of (drop l.statement-index l.statement-items)) ≡ least_line_where (is_mismatched l.program l.symbols) line_of l.statement-items
