-- Counts of numbers that pass a test.
use Rattle.std.proofs.lemmas.Bool.Decides.{nat_tests}
use Rattle.std.proofs.Common.{◌≡◌, ℕ, zero, suc, ◌≤◌, Bool, true, false, refl, sym, arith, inl, inr, nat_eq}
use Rattle.std.proofs.lemmas.Bool.{cases_Bool}
use Rattle.hep_layout.specs.Words.{count_up_to}

pub count-same : (p q : ℕ → Bool) (n : ℕ) → ((a : ℕ) → 1 ≤ a → a ≤ n → p a ≡ q a) → count_up_to p n ≡ count_up_to q n
count-same p q zero h = refl
count-same p q (suc n) h = grind (arith, count-same p q n (λ a one le. h a one (omega (arith, le))), h (suc n) (omega arith) (omega arith))

-- where the count isn't 0 a number passes
pub count-some : (p : ℕ → Bool) (n : ℕ) → 1 ≤ count_up_to p n → (a : ℕ) × (1 ≤ a) × (a ≤ n) × (p a ≡ true)
count-some p zero h = absurd (omega arith)
count-some p (suc n) h = elim (cases_Bool (p (suc n))) [
  | inl e ↦ (suc n, omega arith, omega arith, e)
  | inr e ↦ let found = count-some p n (omega (arith, rw e at h)) in (found.0, found.1, omega (arith, found.2), found.3)
]

-- one number passes no more
pub count-one_less : (p q : ℕ → Bool) (c n : ℕ) → 1 ≤ c → c ≤ n → p c ≡ true → q c ≡ false → ((a : ℕ) → nat_eq a c ≡ false → q a ≡ p a) → count_up_to p n ≡ suc (count_up_to q n)
count-one_less p q c zero one le passes fails others = absurd (omega arith)
count-one_less p q c (suc n) one le passes fails others =
    grind (arith, nat_tests, λ (below : c ≤ n). count-one_less p q c n one below passes fails others, others (suc n), λ (last : suc n ≡ c). count-same p q n (λ a some at_most. sym (others a (grind (arith, nat_tests)))))

-- a number that passes is counted
pub counted : (p : ℕ → Bool) (n a : ℕ) → 1 ≤ a → a ≤ n → p a ≡ true → 1 ≤ count_up_to p n
counted p zero a one le e = absurd (omega arith)
counted p (suc n) a one le e = grind (arith, λ (below : a ≤ n). counted p n a one below e)
