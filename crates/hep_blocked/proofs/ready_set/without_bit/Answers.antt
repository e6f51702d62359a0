use Rattle.std.proofs.Common.{w64, inl, inr, refl}
use Rattle.std.proofs.lemmas.Bool.{cases_eq, eq-eqb, ne_eqb}
use Rattle.std.proofs.lemmas.Nat.Bits.{bit_at_clear_other, bit_at_clear_same}
use Rattle.hep_blocked.proofs.ready_set.without_bit.Goals as goal

pub returns-then-at-lt-FEW : goal.returns-then-at-lt-FEW
returns-then-at-lt-FEW c k few = elim (cases_eq k c.args.at) [
  | inl same ↦ rw (same, eq-eqb c.args.at c.args.at refl) (bit_at_clear_same w64 c.args.bits c.args.at c.if-at-lt-FEW.true)
  | inr other ↦ rw (ne_eqb k c.args.at other) (bit_at_clear_other w64 c.args.bits c.args.at c.if-at-lt-FEW.true k few other)
]
