-- The first marks as bits: what a shift leaves.
use Rattle.std.proofs.Common.{◌≡◌, ℕ, zero, suc, ◌+◌, ◌*◌, ◌/◌, ◌^◌, sym, ap, ◌∙◌, arith}
use Rattle.std.specs.Int.{bit_at}
use Rattle.std.proofs.Math.Nat.{div-div-eq-div-mul, div-one}
use Rattle.std.proofs.lemmas.Nat.Bits.{bit_at-suc}

pub bit_at-shifted : (p n i : ℕ) → bit_at (n / 2 ^ p) i ≡ bit_at n (p + i)
bit_at-shifted zero n i = ap (λ (m : ℕ). bit_at m i) (div-one n) ∙ ap (bit_at n) (omega arith)
bit_at-shifted (suc p) n i =
    let half : 2 ^ suc p ≡ 2 * 2 ^ p = omega arith in
    ap (λ (m : ℕ). bit_at (n / m) i) half ∙ ap (λ (m : ℕ). bit_at m i) (sym (div-div-eq-div-mul n 2 (2 ^ p))) ∙ bit_at-shifted p (n / 2) i ∙ sym (bit_at-suc n (p + i)) ∙ ap (bit_at n) (omega arith)
