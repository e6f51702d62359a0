use Rattle.std.proofs.Common.{◌≡◌, drop}
use Rattle.std.specs.Prelude.{find}
use Rattle.hep_check.specs.Culprits.{is_at}
use Rattle.hep_check.proofs.culprit.statement_at.Given as goal

abbrev pub invariant-loop-statement : goal.invariant-loop-statement
invariant-loop-statement l = find (is_at l.line) (drop l.statement-index l.statement-items) ≡ find (is_at l.line) l.statement-items
