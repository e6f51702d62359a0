use Rattle.std.proofs.Common.{arith, inl, inr, refl}
use Rattle.std.proofs.lemmas.Bool.{cases_lt}
use Rattle.hep_core.proofs.run_core.Core.move_at_once.Goals as goal

pub returns-then-stands_alone-clause-made : goal.returns-then-stands_alone-clause-made
returns-then-stands_alone-clause-made c some = let moved = c.move_once.ensures.chosen some in inl (moved.0, c.if-stands_alone.ensures refl, moved.1)

pub returns-clause-made : goal.returns-clause-made
returns-clause-made c some = inr (c.move_behind.ensures.made some)

pub returns-then-stands_alone-clause-few : goal.returns-then-stands_alone-clause-few
returns-then-stands_alone-clause-few c = elim (cases_lt 0 c.move_once.result) [
  | inl some ↦ let one = (c.move_once.ensures.chosen some).0 in omega (arith, one)
  | inr none ↦ omega (arith, none)
]
