-- Sums of numbers in 32 bits.
use Rattle.std.proofs.Common.{◌≡◌, ℕ, ◌+◌, ◌≤◌, Bool, true, false, refl, arith, min, if◌then◌else◌, nat_le}
use Rattle.std.proofs.lemmas.Bool.Decides.{nat_tests}
use Rattle.hep_storage.specs.Starts.{narrowed}

most : (n : ℕ) → narrowed n ≡ min n 4294967295
most n = by (nat_le n 4294967295) refl where
  by : (b : Bool) → nat_le n 4294967295 ≡ b → (if b then n else 4294967295) ≡ min n 4294967295
  by true e = let h : n ≤ 4294967295 = grind (arith, nat_tests) in omega (arith, h)
  by false e = let h : 4294967295 ≤ n = grind (arith, nat_tests) in omega (arith, h)

pub narrowed-small : (n : ℕ) → n ≤ 4294967295 → narrowed n ≡ n
narrowed-small n h = omega (arith, h, most n)

pub narrowed-more : (a c : ℕ) → narrowed (narrowed a + c) ≡ narrowed (a + c)
narrowed-more a c = omega (arith, most a, most (narrowed a + c), most (a + c))

pub narrowed-sum : (a b : ℕ) → narrowed (a + narrowed b) ≡ narrowed (a + b)
narrowed-sum a b = omega (arith, most b, most (a + narrowed b), most (a + b))

pub narrowed-zero : narrowed 0 ≡ 0
narrowed-zero = narrowed-small 0 (omega arith)
