-- Powers: of 0, 1 and -1, and of every other base past the exponent 63.
use Rattle.std.proofs.Common.{◌≡◌, ◌≢◌, ℕ, zero, suc, ◌^◌, ◌%◌, ◌==◌, ◌<◌, ◌≤◌, true, false, cond, ℤ, pos, negsuc, neg_ℤ, ◌<ℤ◌, nat_lt, refl, arith, Ok, Err}
use Rattle.std.proofs.Math.Nat.{pow-le-pow_left, pow-le-pow_right}
use Rattle.std.proofs.lemmas.Grind.{pow_more}
use Rattle.std.proofs.lemmas.Int.{ints}
use Rattle.std.specs.Int.{int_pow}
use Rattle.hep_machine.specs.Words.{integer_or_overflow, reciprocal_of}
use Rattle.hep_machine.specs.declared.event.Kind.TheVariants.{Overflow}

pub one_power : (n : ℕ) → 1 ^ n ≡ 1
one_power zero = refl
one_power (suc n) = grind (arith, pow_more 1 n, one_power n)

pub zero_power : (n : ℕ) → 0 < n → 0 ^ n ≡ 0
zero_power zero h = omega arith
zero_power (suc n) h = grind (arith, pow_more 0 n)

-- past the exponent 63 a base of 2 or more leaves 64 bits
pub far_power : (b n : ℕ) → 2 ≤ b → 63 < n → 2 ^ 64 ≤ b ^ n
far_power b n h k =
    let two : 0 < 2 = omega arith in
    let more : 64 ≤ n = omega arith in
    let base : 2 ^ 64 ≤ 2 ^ n = pow-le-pow_right {n = 2} two more in
    let same : 2 ^ n ≤ b ^ n = pow-le-pow_left h n in
    omega arith

-- the powers of -1 go by the parity of the exponent
pub minus_one_power : (n : ℕ) → int_pow (negsuc 0) n ≡ cond (n % 2 == 0) (pos 1) (negsuc 0)
minus_one_power n = rw one_power refl

-- those two powers, in the form that the code returns
pub even_sign : (z : ℤ) (n : ℕ) → z ≡ negsuc 0 → n % 2 ≡ 0 → integer_or_overflow (int_pow z n) ≡ Ok (pos 1)
even_sign z n h even = rw h (rw minus_one_power (rw even refl))

pub odd_sign : (z : ℤ) (n : ℕ) → z ≡ negsuc 0 → n % 2 ≢ 0 → integer_or_overflow (int_pow z n) ≡ Ok (negsuc 0)
odd_sign z n h odd =
    let one : n % 2 ≡ 1 = omega arith in
    rw h (rw minus_one_power (rw one refl))

-- the reciprocal of a power of -1 is that power
pub even_reciprocal : (z : ℤ) (n : ℕ) → z ≡ negsuc 0 → n % 2 ≡ 0 → reciprocal_of z n ≡ Ok (pos 1)
even_reciprocal z n h even = rw h (rw minus_one_power (rw even refl))

pub odd_reciprocal : (z : ℤ) (n : ℕ) → z ≡ negsuc 0 → n % 2 ≢ 0 → reciprocal_of z n ≡ Ok (negsuc 0)
odd_reciprocal z n h odd =
    let one : n % 2 ≡ 1 = omega arith in
    rw h (rw minus_one_power (rw one refl))

-- an absolute value of 2^64 or more is that of no integer
pub fitted_far : (m : ℕ) → 2 ^ 64 ≤ m → integer_or_overflow (pos m) ≡ Err Overflow
fitted_far m h =
    let test : nat_lt m (2 ^ 63) ≡ false = grind arith in
    rw test refl

pub fitted_far_below : (m : ℕ) → 2 ^ 64 ≤ m → integer_or_overflow (neg_ℤ (pos m)) ≡ Err Overflow
fitted_far_below zero h = absurd (omega arith)
fitted_far_below (suc m) h =
    let test : nat_lt m (2 ^ 63) ≡ false = grind arith in
    rw test refl

-- so no power past the exponent 63 fits, of a base above 1 or below -1
pub far_positive : (z : ℤ) (n : ℕ) → pos 1 <ℤ z → 63 < n → integer_or_overflow (int_pow z n) ≡ Err Overflow
far_positive (pos m) n h k =
    let two : 2 ≤ m = omega (arith, ints) in
    fitted_far (m ^ n) (far_power m n two k)
far_positive (negsuc m) n h k = absurd (omega (arith, ints))

pub far_negative : (z : ℤ) (n : ℕ) → z <ℤ negsuc 0 → 63 < n → integer_or_overflow (int_pow z n) ≡ Err Overflow
far_negative (pos m) n h k = absurd (omega (arith, ints))
far_negative (negsuc m) n h k =
    let two : 2 ≤ suc m = omega (arith, ints) in
    let far : 2 ^ 64 ≤ suc m ^ n = far_power (suc m) n two k in
    elim (n % 2 == 0) as (λ b. integer_or_overflow (cond b (pos (suc m ^ n)) (neg_ℤ (pos (suc m ^ n)))) ≡ Err Overflow)
    [ true ↦ fitted_far _ far | false ↦ fitted_far_below _ far ]

-- 0 and 1 are their own powers
pub small_power : (z : ℤ) (n : ℕ) → negsuc 0 <ℤ z → z <ℤ pos 2 → 63 < n → integer_or_overflow (int_pow z n) ≡ Ok z
small_power (pos zero) n above below k =
    let some : 0 < n = omega arith in
    let power : 0 ^ n ≡ 0 = zero_power n some in
    rw power refl
small_power (pos (suc zero)) n above below k = rw one_power refl
small_power (pos (suc (suc m))) n above below k = absurd (omega (arith, ints))
small_power (negsuc m) n above below k = absurd (omega (arith, ints))
