use Rattle.std.proofs.Common.{◌≡◌, drop}
use Rattle.std.specs.Prelude.{find}
use Rattle.hep_dump.specs.PendingCalls.{is_at}
use Rattle.hep_dump.proofs.pending_calls.wants_at.Given as goal

abbrev pub invariant-loop-statement : goal.invariant-loop-statement
invariant-loop-statement l = find (is_at l.line) (drop l.statement-index l.statement-items) ≡ find (is_at l.line) l.symbols
