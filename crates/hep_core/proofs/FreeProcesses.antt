-- Of rising numbers the first one that passes a test and is above another.
use Rattle.std.proofs.Common.{◌≡◌, ℕ, ◌+◌, ◌<◌, ◌≤◌, Bool, true, false, List, [], ◌∷◌, Some, None, inl, inr, refl, sym, ap, ◌∙◌, arith, if◌then◌else◌}
use Rattle.std.specs.List.{filter}
use Rattle.std.proofs.lemmas.Bool.{cases_Bool, cases_lt, le-ltb, lt-ltb}
use Rattle.std.proofs.lemmas.Option.{same_Some}
use Rattle.hep_machine.specs.Words.{first_above}
use Rattle.hep_blocked.specs.Numbers.{AreRising}

-- it is above, and one of them
pub is-above : (least greatest p q : ℕ) (xs : List ℕ) → AreRising least greatest xs → first_above p xs None ≡ Some q → (p < q) × (q ≤ greatest)
is-above least greatest p q [] rising is = cc
is-above least greatest p q (x ∷ xs) rising is = elim (cases_lt p x) [
  | inl less ↦
      let here : Some x ≡ Some q = rw (lt-ltb p x less) at is in
      let same : x ≡ q = same_Some x q here in
      (omega arith, omega (arith, rising.1))
  | inr more ↦ is-above (x + 1) greatest p q xs rising.2 (rw (le-ltb p x more) at is)
]

module _ (test : ℕ → Bool) where
  -- two numbers below all of them have the same first one above
  below-both : (least greatest p q : ℕ) (xs : List ℕ) → AreRising least greatest xs → p < least → q < least → first_above p (filter test xs) None ≡ first_above q (filter test xs) None
  below-both least greatest p q [] rising low high = refl
  below-both least greatest p q (x ∷ xs) rising low high = elim (cases_Bool (test x)) [
    | inl passes ↦ rw (passes, lt-ltb p x (omega (arith, rising.0)), lt-ltb q x (omega (arith, rising.0))) refl
    | inr fails ↦ rw fails (below-both (x + 1) greatest p q xs rising.2 (omega (arith, rising.0)) (omega (arith, rising.0)))
  ]

  -- where the first one above fails the test, it is the first one above that one
  pub first-passing : (least greatest p q : ℕ) (xs : List ℕ) → AreRising least greatest xs → first_above p xs None ≡ Some q
      → first_above p (filter test xs) None ≡ (if test q then Some q else first_above q (filter test xs) None)
  first-passing least greatest p q [] rising is = cc
  first-passing least greatest p q (x ∷ xs) rising is = elim (cases_lt p x) [
    | inl less ↦
        let here : Some x ≡ Some q = rw (lt-ltb p x less) at is in
        let same : x ≡ q = same_Some x q here in
        elim (cases_Bool (test x)) [
          | inl passes ↦ let on : test q ≡ true = ap test (sym same) ∙ passes in rw (passes, on, lt-ltb p x less) here
          | inr fails ↦ let off : test q ≡ false = ap test (sym same) ∙ fails in rw (fails, off) (below-both (x + 1) greatest p q xs rising.2 (omega arith) (omega arith))
        ]
    | inr more ↦
        let further : first_above p xs None ≡ Some q = rw (le-ltb p x more) at is in
        let above = is-above (x + 1) greatest p q xs rising.2 further in
        let rest = first-passing (x + 1) greatest p q xs rising.2 further in
        elim (cases_Bool (test x)) [
          | inl passes ↦ rw (passes, le-ltb p x more, le-ltb q x (omega (arith, above.0))) rest
          | inr fails ↦ rw fails rest
        ]
  ]

  pub none-passing : (p : ℕ) (xs : List ℕ) → first_above p xs None ≡ None → first_above p (filter test xs) None ≡ None
  none-passing p [] is = refl
  none-passing p (x ∷ xs) is = elim (cases_lt p x) [
    | inl less ↦ cc (rw (lt-ltb p x less) at is)
    | inr more ↦
        let further : first_above p xs None ≡ None = rw (le-ltb p x more) at is in
        elim (cases_Bool (test x)) [
          | inl passes ↦ rw (passes, le-ltb p x more) (none-passing p xs further)
          | inr fails ↦ rw fails (none-passing p xs further)
        ]
  ]
