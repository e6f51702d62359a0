use Rattle.std.proofs.Common.{◌≡◌, ◌+◌, ◌-◌, ◌/◌, ◌^◌, ◌<◌, ℕ, sym, ap, ◌∙◌, w64, inl, inr, arith, refl}
use Rattle.std.specs.Int.{bit_at, trailing_zeros}
use Rattle.std.proofs.lemmas.Bool.{cases_lt}
use Rattle.std.proofs.lemmas.Nat.Bits.{bit_at_above, bit_at-trailing_zeros, bit_at-zero}
use Rattle.std.proofs.Math.Nat.{div-le_self, pos_of_ne-zero}
use Rattle.hep_blocked.proofs.Bits.{bit_at-shifted}
use Rattle.hep_blocked.proofs.ready_set.first_bit.Goals as goal

-- the bit k of what is shifted is further up in what it was
shifted : (bits from k at : ℕ) → from + k ≡ at → bit_at (bits / 2 ^ from) k ≡ bit_at bits at
shifted bits from k at e = bit_at-shifted from bits k ∙ ap (bit_at bits) e

pub returns-then-above-eq0 : goal.returns-then-above-eq0
returns-then-above-eq0 c k low few =
    let i = k - c.args.from in
    sym (shifted c.args.bits c.args.from i k (omega (arith, low))) ∙ ap (λ (m : ℕ). bit_at m i) c.if-above-eq0.true ∙ bit_at-zero i

pub returns : goal.returns
returns c =
    let from = c.args.from in
    let above = c.args.bits / 2 ^ from in
    let t = bit_at-trailing_zeros w64 above (pos_of_ne-zero c.if-above-eq0.false) (omega (arith, div-le_self c.args.bits (2 ^ from), c.ranges.bits.fits)) in
    let at = from + trailing_zeros w64 above in
    let on : bit_at c.args.bits at ≡ 1 = sym (shifted c.args.bits from (trailing_zeros w64 above) at refl) ∙ t.1 in
    let inside : at < 64 = elim (cases_lt at 64) [ inl l ↦ l | inr r ↦ absurd (omega (arith, on, bit_at_above c.args.bits 64 at c.ranges.bits.fits r)) ] in
    (omega arith, inside, on, λ k low high. sym (shifted c.args.bits from (k - from) k (omega (arith, low))) ∙ t.2 (k - from) (omega (arith, low, high)))
