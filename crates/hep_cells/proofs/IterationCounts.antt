-- Iteration counts of DOs: X3.9-1978, 11.10.3.
use Rattle.std.proofs.Common.{◌≡◌, ◌≢◌, ℕ, zero, suc, ◌<◌, ◌/◌, ◌^◌, ℤ, pos, negsuc, ◌+ℤ◌, ◌-ℤ◌, ◌≤ℤ◌, FitsSigned, refl, arith, int_div, nat_abs, neg_ℤ}
use Rattle.std.specs.Int.{w128}
use Rattle.std.proofs.lemmas.Int.{ints}
use Rattle.std.proofs.Math.Nat.{div-le_self}
use Rattle.hep_machine.specs.Words.{integer_or_overflow, natural, iterations}

pub iterations_are : (m n d : ℤ) → d ≢ pos 0 → iterations m n d ≡ integer_or_overflow (pos (natural (int_div ((n -ℤ m) +ℤ d) d)))
iterations_are m n (pos zero) h = absurd (h refl)
iterations_are m n (pos (suc k)) h = refl
iterations_are m n (negsuc k) h = refl

-- a quotient is no larger than its dividend
negative_fits : (q : ℕ) → q < 2 ^ 66 → FitsSigned w128 (neg_ℤ (pos q))
negative_fits zero h = record { sfits = omega arith }
negative_fits (suc q) h = record { sfits = omega (arith, h) }

pub quotient_fits : (a d : ℤ) → nat_abs a < 2 ^ 66 → FitsSigned w128 (int_div a d)
quotient_fits (pos a) (pos b) h = record { sfits = omega (arith, div-le_self a b, h) }
quotient_fits (negsuc a) (pos b) h = negative_fits (suc a / b) (omega (arith, div-le_self (suc a) b, h))
quotient_fits (pos a) (negsuc b) h = negative_fits (a / suc b) (omega (arith, div-le_self a (suc b), h))
quotient_fits (negsuc a) (negsuc b) h = record { sfits = omega (arith, div-le_self (suc a) (suc b), h) }

pub is_small : (a : ℤ) → neg_ℤ (pos (2 ^ 65)) ≤ℤ a → a ≤ℤ pos (2 ^ 65) → nat_abs a < 2 ^ 66
is_small (pos a) low high = omega (arith, ints, high)
is_small (negsuc a) low high = omega (arith, ints, low)
