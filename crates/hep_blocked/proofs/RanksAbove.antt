-- The least number above one: of rising numbers, and of those of the processes that wait.
use Rattle.std.proofs.Common.{◌≡◌, ◌≢◌, ℕ, zero, suc, ◌+◌, ◌-◌, ◌<◌, ◌||◌, Bool, true, false, true≢false, List, [], ◌∷◌, length, get_or, Option, Some, None, refl, sym, subst, ap, ◌∙◌, inl, inr, arith, ◌==◌, nat_lt, is_none, is_some, IfNone, IfSome}
use Rattle.std.proofs.lemmas.Bool.{cases_lt, cases_eq, lt-ltb, le-ltb, ne_eqb, eq-eqb}
use Rattle.hep_machine.specs.Words.{is_number_among, first_above}
use Rattle.hep_blocked.specs.Numbers.{AreRising, Numbers}
use Rattle.hep_cells.specs.declared.want.Want.{Want}
use Rattle.hep_blocked.specs.QueueInvariant.{AreNumbers}
use Rattle.hep_blocked.specs.Waiting.{next_from, next_waiting, waiting_at}
use Rattle.hep_source.proofs.Tests.{and-false, none-from-not}

-- ---- of the numbers that pass a test

abbrev pub IsLeastAbove : (ℕ → Bool) → ℕ → Option ℕ → Type 0
IsLeastAbove test p None = (q : ℕ) → p < q → test q ≡ false
IsLeastAbove test p (Some q) = (p < q) × (test q ≡ true) × ((r : ℕ) → p < r → r < q → test r ≡ false)

least-same : (test : ℕ → Bool) (p : ℕ) (a b : Option ℕ) → IsLeastAbove test p a → IsLeastAbove test p b → a ≡ b
least-same test p None None l m = refl
least-same test p None (Some r) l m = absurd (true≢false (sym m.1 ∙ l r m.0))
least-same test p (Some q) None l m = absurd (true≢false (sym l.1 ∙ m q l.0))
least-same test p (Some q) (Some r) l m = elim (cases_lt q r) [
  | inl below ↦ absurd (true≢false (sym l.1 ∙ m.2 q l.0 below))
  | inr from ↦ elim (cases_eq q r) [
    | inl e ↦ ap Some e
    | inr ne ↦ absurd (true≢false (sym m.1 ∙ l.2 r m.0 (omega (arith, from, ne))))
  ]
]

-- a test that says the same above p
least-alike : (test other : ℕ → Bool) (p : ℕ) (a : Option ℕ) → ((q : ℕ) → p < q → test q ≡ other q) → IsLeastAbove test p a → IsLeastAbove other p a
least-alike test other p None same l = λ q above. sym (same q above) ∙ l q above
least-alike test other p (Some q) same l = (l.0, sym (same q l.0) ∙ l.1, λ r above below. sym (same r above) ∙ l.2 r above below)

-- ---- of rising numbers

abbrev pub is_among : List ℕ → ℕ → Bool
is_among xs q = is_number_among q xs

below-all : (q least greatest : ℕ) (xs : List ℕ) → q < least → AreRising least greatest xs → is_among xs q ≡ false
below-all q least greatest [] low rise = refl
below-all q least greatest (x ∷ xs) low rise =
    rw (ne_eqb q x (λ e. omega (arith, rise.0))) (below-all q (x + 1) greatest xs (omega (arith, rise.0)) rise.2)

pub first-least : (p least greatest : ℕ) (xs : List ℕ) → AreRising least greatest xs → IsLeastAbove (is_among xs) p (first_above p xs None)
first-least p least greatest [] rise = λ q above. refl
first-least p least greatest (x ∷ xs) rise = elim (cases_lt p x) [
  | inl l ↦ rw (lt-ltb p x l) (
    l,
    rw (eq-eqb x x refl) refl,
    λ r above below.
        rw (ne_eqb r x (λ e. omega arith)) (below-all r (x + 1) greatest xs (omega arith) rise.2),
  )
  | inr g ↦ rw (le-ltb p x g) (least-alike (is_among xs) (is_among (x ∷ xs)) p (first_above p xs None)
      (λ q above. rw (ne_eqb q x (λ e. omega arith)) refl) (first-least p (x + 1) greatest xs rise.2))
]

-- ---- of the processes that wait

abbrev waits : List (Option Want) → ℕ → Bool
waits ws q = is_some (waiting_at ws q)

from-least : (n p : ℕ) (ws : List (Option Want)) (test : ℕ → Bool) → ((k q : ℕ) → q ≡ n + k → test q ≡ is_some (get_or ws k None)) → ((q : ℕ) → p < q → q < n → test q ≡ false)
    → IsLeastAbove test p (next_from n p ws)
from-least n p [] test is before = λ q above. elim (cases_lt q n) [
  | inl l ↦ before q above l
  | inr g ↦ is (q - n) q (omega arith)
]
from-least n p (None ∷ ws) test is before =
    rw (and-false (nat_lt p n)) (from-least (suc n) p ws test (λ k q e. is (suc k) q (omega arith)) (λ q above low. elim (cases_eq q n) [
      | inl e ↦ is 0 q (omega arith)
      | inr ne ↦ before q above (omega arith)
    ]))
from-least n p (Some w ∷ ws) test is before = elim (cases_lt p n) [
  | inl l ↦ rw (lt-ltb p n l) (l, is 0 n (omega arith), before)
  | inr g ↦ rw (le-ltb p n g) (from-least (suc n) p ws test (λ k q e. is (suc k) q (omega arith)) (λ q above low. absurd (omega arith)))
]

next-least : (ws : List (Option Want)) (p : ℕ) → IsLeastAbove (waits ws) p (next_waiting ws p)
next-least ws p =
    from-least 1 p ws (waits ws) (λ k q e. let same : q ≡ suc k = omega arith in ap (waits ws) same) (λ q above low. absurd (omega arith))

-- in words of what the processes wait for
pub next-found : (ws : List (Option Want)) (p : ℕ) (o : Option ℕ) → o ≡ next_waiting ws p
    → IfSome o (λ q. (p < q) × (waiting_at ws q ≢ None) × ((r : ℕ) → p < r → r < q → waiting_at ws r ≡ None))
next-found ws p None is = tt
next-found ws p (Some q) is =
    let l = subst (IsLeastAbove (waits ws) p) (sym is) (next-least ws p) in
    (l.0, λ none. true≢false (sym l.1 ∙ ap is_some none), λ r above below. none-from-not (waiting_at ws r) (l.2 r above below))

pub next-none : (ws : List (Option Want)) (p : ℕ) (o : Option ℕ) → o ≡ next_waiting ws p → IfNone o ((q : ℕ) → p < q → waiting_at ws q ≡ None)
next-none ws p (Some q) is = tt
next-none ws p None is = λ q above. none-from-not (waiting_at ws q) (subst (IsLeastAbove (waits ws) p) (sym is) (next-least ws p) q above)

pub nobody-waits : (ws : List (Option Want)) (o : Option ℕ) → o ≡ next_waiting ws 0 → is_none o ≡ true → (p : ℕ) → waiting_at ws p ≡ None
nobody-waits ws None is none zero = refl
nobody-waits ws None is none (suc k) = next-none ws 0 None is (suc k) (omega arith)
nobody-waits ws (Some q) is none p = cc

pub somebody-waits : (ws : List (Option Want)) (o : Option ℕ) → o ≡ next_waiting ws 0 → is_none o ≡ false → (p : ℕ) × (waiting_at ws p ≢ None)
somebody-waits ws None is some = cc
somebody-waits ws (Some q) is some = (q, (next-found ws 0 (Some q) is).1)

-- ---- read from the numbers of those that wait

pub next-told : (ws : List (Option Want)) (numbers : Numbers) (p : ℕ) → AreNumbers ws numbers → AreRising 1 numbers.room numbers.ready → first_above p numbers.ready None ≡ next_waiting ws p
next-told ws numbers p n rise =
    let first = first_above p numbers.ready None in
    let least = first-least p 1 numbers.room numbers.ready rise in
    least-same (waits ws) p first (next_waiting ws p) (least-alike (is_among numbers.ready) (waits ws) p first (λ q above. n.among q) least) (next-least ws p)

none-least : (ws : List (Option Want)) (xs : List ℕ) (o : Option ℕ) → ((p : ℕ) → is_number_among p xs ≡ waits ws p) → IsLeastAbove (waits ws) 0 o → (length xs == 0) ≡ is_none o
none-least ws [] None among l = refl
none-least ws [] (Some q) among l = absurd (true≢false (sym l.1 ∙ sym (among q)))
none-least ws (zero ∷ xs) None among l = absurd (true≢false (among 0))
none-least ws (suc k ∷ xs) None among l =
    let there : is_number_among (suc k) (suc k ∷ xs) ≡ true = ap (λ (b : Bool). b || is_number_among (suc k) xs) (eq-eqb (suc k) (suc k) refl) in
    absurd (true≢false (sym there ∙ among (suc k) ∙ l (suc k) (omega arith)))
none-least ws (x ∷ xs) (Some q) among l = ne_eqb (length (x ∷ xs)) 0 (λ e. omega arith)

-- there is none just where nobody waits
pub none-told : (ws : List (Option Want)) (numbers : Numbers) → AreNumbers ws numbers → (length numbers.ready == 0) ≡ is_none (next_waiting ws 0)
none-told ws numbers n = none-least ws numbers.ready (next_waiting ws 0) n.among (next-least ws 0)
