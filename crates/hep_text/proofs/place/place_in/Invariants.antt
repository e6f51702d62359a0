use Rattle.std.proofs.Common.{◌≡◌, drop}
use Rattle.std.specs.Prelude.{find}
use Rattle.hep_text.specs.Places.{is_at}
use Rattle.hep_text.proofs.place.place_in.Given as goal

abbrev pub invariant-loop-statement : goal.invariant-loop-statement
invariant-loop-statement l = find (is_at l.line) (drop l.statement-index l.statements) ≡ find (is_at l.line) l.statements
