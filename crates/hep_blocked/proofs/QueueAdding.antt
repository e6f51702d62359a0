-- Numbers are put where they belong among rising ones: once more and in another order it comes to the same.
use Rattle.std.proofs.Common.{◌≡◌, ℕ, zero, suc, ◌<◌, ◌||◌, Bool, true, List, [], ◌∷◌, ◌++◌, ◌⊎◌, length, get_or, refl, sym, ap, ◌∙◌, inl, inr, arith, nat_eq}
use Rattle.std.proofs.lemmas.Bool.{cases_lt, cases_eq, lt-ltb, le-ltb, ne_eqb, eq-eqb}
use Rattle.hep_machine.specs.Words.{is_number_among}
use Rattle.hep_blocked.specs.Numbers.{with_number}
use Rattle.hep_blocked.specs.Waiting.{with_numbers}
use Rattle.hep_source.proofs.Tests.{or-true, or-turned, or-again, or-regrouped}

-- ---- one number

before : (p x : ℕ) (xs : List ℕ) → p < x → with_number p (x ∷ xs) ≡ p ∷ x ∷ xs
before p x xs h = rw (lt-ltb p x h) refl

there : (p x : ℕ) (xs : List ℕ) → p ≡ x → with_number p (x ∷ xs) ≡ x ∷ xs
there p x xs h = rw (le-ltb p x (omega arith), eq-eqb p x h) refl

behind : (p x : ℕ) (xs : List ℕ) → x < p → with_number p (x ∷ xs) ≡ x ∷ with_number p xs
behind p x xs h = rw (le-ltb p x (omega arith), ne_eqb p x (λ e. omega arith)) refl

order : (p x : ℕ) → (p < x) ⊎ ((p ≡ x) ⊎ (x < p))
order p x = elim (cases_lt p x) [
  | inl l ↦ inl l
  | inr r ↦ elim (cases_eq p x) [ inl e ↦ inr (inl e) | inr ne ↦ inr (inr (omega arith)) ]
]

again : (p : ℕ) (xs : List ℕ) → with_number p (with_number p xs) ≡ with_number p xs
again p [] = there p p [] refl
again p (x ∷ xs) = elim (order p x) [
  | inl l ↦ rw (before p x xs l) (there p p (x ∷ xs) refl)
  | inr r ↦ elim r [
    | inl e ↦ rw (there p x xs e) (there p x xs e)
    | inr g ↦ rw (behind p x xs g) (behind p x (with_number p xs) g ∙ ap (λ (ys : List ℕ). x ∷ ys) (again p xs))
  ]
]

less-swaps : (p q : ℕ) (xs : List ℕ) → p < q → with_number p (with_number q xs) ≡ with_number q (with_number p xs)
less-swaps p q [] h = before p q [] h ∙ sym (behind q p [] h)
less-swaps p q (x ∷ xs) h = elim (order q x) [
  | inl l ↦
      let below : p < x = omega arith in
      ap (with_number p) (before q x xs l) ∙ before p q (x ∷ xs) h
      ∙ sym (ap (with_number q) (before p x xs below) ∙ behind q p (x ∷ xs) h ∙ ap (λ (ys : List ℕ). p ∷ ys) (before q x xs l))
  | inr r ↦ elim r [
    | inl e ↦
        let below : p < x = omega arith in
        ap (with_number p) (there q x xs e) ∙ before p x xs below
        ∙ sym (ap (with_number q) (before p x xs below) ∙ behind q p (x ∷ xs) h ∙ ap (λ (ys : List ℕ). p ∷ ys) (there q x xs e))
    | inr g ↦ ap (with_number p) (behind q x xs g) ∙ elim (order p x) [
      | inl l ↦
          before p x (with_number q xs) l
          ∙ sym (ap (with_number q) (before p x xs l) ∙ behind q p (x ∷ xs) h ∙ ap (λ (ys : List ℕ). p ∷ ys) (behind q x xs g))
      | inr s ↦ elim s [
        | inl e ↦ there p x (with_number q xs) e ∙ sym (ap (with_number q) (there p x xs e) ∙ behind q x xs g)
        | inr f ↦
            behind p x (with_number q xs) f ∙ ap (λ (ys : List ℕ). x ∷ ys) (less-swaps p q xs h)
            ∙ sym (ap (with_number q) (behind p x xs f) ∙ behind q x (with_number p xs) g)
      ]
    ]
  ]
]

swaps : (p q : ℕ) (xs : List ℕ) → with_number p (with_number q xs) ≡ with_number q (with_number p xs)
swaps p q xs = elim (order p q) [
  | inl l ↦ less-swaps p q xs l
  | inr r ↦ elim r [
    | inl e ↦ ap (λ (n : ℕ). with_number n (with_number q xs)) e ∙ ap (λ (n : ℕ). with_number q (with_number n xs)) (sym e)
    | inr g ↦ sym (less-swaps q p xs g)
  ]
]

pub among-one : (q p : ℕ) (xs : List ℕ) → is_number_among q (with_number p xs) ≡ (nat_eq q p || is_number_among q xs)
among-one q p [] = refl
among-one q p (x ∷ xs) = elim (order p x) [
  | inl l ↦ ap (is_number_among q) (before p x xs l)
  | inr r ↦ elim r [
    | inl e ↦
        ap (is_number_among q) (there p x xs e) ∙ sym (or-again (nat_eq q x) (is_number_among q xs))
        ∙ ap (λ (n : ℕ). nat_eq q n || (nat_eq q x || is_number_among q xs)) (sym e)
    | inr g ↦
        ap (is_number_among q) (behind p x xs g) ∙ ap (λ (b : Bool). nat_eq q x || b) (among-one q p xs)
        ∙ or-turned (nat_eq q x) (nat_eq q p) (is_number_among q xs)
  ]
]

-- ---- many

swaps-many : (p : ℕ) (ps xs : List ℕ) → with_number p (with_numbers ps xs) ≡ with_numbers ps (with_number p xs)
swaps-many p [] xs = refl
swaps-many p (q ∷ qs) xs = swaps-many p qs (with_number q xs) ∙ ap (with_numbers qs) (swaps p q xs)

swaps-lists : (qs ps xs : List ℕ) → with_numbers qs (with_numbers ps xs) ≡ with_numbers ps (with_numbers qs xs)
swaps-lists [] ps xs = refl
swaps-lists (q ∷ qs) ps xs = ap (with_numbers qs) (swaps-many q ps xs) ∙ swaps-lists qs ps (with_number q xs)

one-again : (p : ℕ) (ps xs : List ℕ) → is_number_among p ps ≡ true → with_number p (with_numbers ps xs) ≡ with_numbers ps xs
one-again p [] xs h = cc
one-again p (q ∷ qs) xs h = elim (cases_eq p q) [
  | inl e ↦
      swaps-many p qs (with_number q xs)
      ∙ ap (with_numbers qs) (ap (λ (n : ℕ). with_number n (with_number q xs)) e ∙ again q xs)
  | inr ne ↦ one-again p qs (with_number q xs) (rw (ne_eqb p q ne) at h)
]

many-again : (qs ps xs : List ℕ) → ((q : ℕ) → is_number_among q qs ≡ true → is_number_among q ps ≡ true) → with_numbers qs (with_numbers ps xs) ≡ with_numbers ps xs
many-again [] ps xs h = refl
many-again (q ∷ qs) ps xs h =
    let first : is_number_among q (q ∷ qs) ≡ true = ap (λ (b : Bool). b || is_number_among q qs) (eq-eqb q q refl) in
    ap (with_numbers qs) (one-again q ps xs (h q first))
    ∙ many-again qs ps xs (λ p among. h p (ap (λ (b : Bool). nat_eq p q || b) among ∙ or-true (nat_eq p q)))

-- it depends on which numbers there are, and not on their order
pub numbers-same : (ps qs xs : List ℕ) → ((p : ℕ) → is_number_among p ps ≡ is_number_among p qs) → with_numbers ps xs ≡ with_numbers qs xs
numbers-same ps qs xs same =
    sym (many-again qs ps xs (λ q h. same q ∙ h)) ∙ swaps-lists qs ps xs ∙ many-again ps qs xs (λ p h. sym (same p) ∙ h)

pub among-many : (q : ℕ) (ps xs : List ℕ) → is_number_among q (with_numbers ps xs) ≡ (is_number_among q ps || is_number_among q xs)
among-many q [] xs = refl
among-many q (p ∷ ps) xs =
    among-many q ps (with_number p xs) ∙ ap (λ (b : Bool). is_number_among q ps || b) (among-one q p xs)
    ∙ or-regrouped (is_number_among q ps) (nat_eq q p) (is_number_among q xs)

-- ---- a list of numbers

pub among-at : (ps : List ℕ) (i : ℕ) → i < length ps → is_number_among (get_or ps i 0) ps ≡ true
among-at [] i h = absurd (omega arith)
among-at (p ∷ ps) zero h = ap (λ (b : Bool). b || is_number_among p ps) (eq-eqb p p refl)
among-at (p ∷ ps) (suc i) h = ap (λ (b : Bool). nat_eq (get_or ps i 0) p || b) (among-at ps i (omega arith)) ∙ or-true (nat_eq (get_or ps i 0) p)

pub among-behind : (q p : ℕ) (ps : List ℕ) → is_number_among q (ps ++ p ∷ []) ≡ (nat_eq q p || is_number_among q ps)
among-behind q p [] = refl
among-behind q p (x ∷ xs) = ap (λ (b : Bool). nat_eq q x || b) (among-behind q p xs) ∙ or-turned (nat_eq q x) (nat_eq q p) (is_number_among q xs)
