-- What is drawn is ready, and something is drawn where anything is ready; and the lots after one draw more.
use Rattle.std.proofs.Common.{◌≡◌, ◌⊎◌, ℕ, zero, suc, ◌+◌, ◌-◌, ◌/◌, ◌%◌, ◌≤◌, Bool, true, false, if◌then◌else◌, List, [], ◌∷◌, Option, Some, None, inl, inr, refl, sym, ap, ◌∙◌, arith, nat_eq, eqb-true, option_and_then}
use Rattle.std.specs.Option.{option_map_or}
use Rattle.std.proofs.lemmas.Bool.{and_parts, cases_lt, le-ltb, lt-ltb}
use Rattle.std.proofs.lemmas.Option.{same_Some}
use Rattle.rand_pcg.specs.Lcg.{next_state, state_after}
use Rattle.rand_pcg.specs.Pcg.{multiplier_64}
use Rattle.hep_machine.specs.Words.{first_above, next_of_ready}
use Rattle.hep_outcome.specs.KeptLots.{lots_after, lots_next}
use Rattle.hep_outcome.specs.LotDraws.{drawn, drawn_anew, further, generator_after, stay_of}

-- ---- what is drawn

-- p comes next after some number
abbrev pub ComesNext : List ℕ → ℕ → Type 0
ComesNext ready p = (n : ℕ) × (next_of_ready n ready ≡ Some p)

first-found : (o : Option ℕ) (f : ℕ → Option ℕ) (p : ℕ) → option_and_then f o ≡ Some p → (q : ℕ) × (o ≡ Some q) × (f q ≡ Some p)
first-found None f p e = absurd cc
first-found (Some q) f p e = (q, refl, e)

further-comes : (k p q : ℕ) (ready : List ℕ) → further (suc k) p ready ≡ Some q → ComesNext ready q
further-comes zero p q ready e =
    let found = first-found (next_of_ready p ready) (λ r. further 0 r ready) q e in
    (p, found.1 ∙ found.2)
further-comes (suc k) p q ready e =
    let found = first-found (next_of_ready p ready) (λ r. further (suc k) r ready) q e in
    further-comes k found.0 q ready found.2

some-further : (k p q : ℕ) (ready : List ℕ) → 1 ≤ k → further k p ready ≡ Some q → ComesNext ready q
some-further zero p q ready some e = absurd (omega (arith, some))
some-further (suc k) p q ready some e = further-comes k p q ready e

ready-found : (o : Option ℕ) (p : ℕ) → option_map_or (nat_eq p) o false ≡ true → o ≡ Some p
ready-found None p e = absurd cc
ready-found (Some q) p e = ap Some (sym (eqb-true p q e))

-- one of the two
chosen : (b : Bool) (last p : ℕ) (other : Option ℕ) → (if b then Some last else other) ≡ Some p → ((b ≡ true) × (last ≡ p)) ⊎ (other ≡ Some p)
chosen true last p other e = inl (refl, same_Some last p e)
chosen false last p other e = inr e

pub drawn-comes : (stay word made last p : ℕ) (ready : List ℕ) → drawn stay word made last ready ≡ Some p → ComesNext ready p
drawn-comes stay word made last p ready e = elim (chosen _ last p (drawn_anew (word / stay) made ready) e) [
  | inl kept ↦
      let both = and_parts _ _ kept.0 in
      (last - 1, ready-found (next_of_ready (last - 1) ready) last both.1 ∙ ap Some kept.1)
  | inr anew ↦ some-further (word / stay % 4 + 1) (word / stay / 4 % made) p ready (omega arith) anew
]

-- ---- nothing is drawn

next-some : (n other : ℕ) (xs : List ℕ) → (q : ℕ) × (first_above n xs (Some other) ≡ Some q)
next-some n other [] = (other, refl)
next-some n other (x ∷ xs) = elim (cases_lt n x) [
  | inl less ↦ (x, rw (lt-ltb n x less) refl)
  | inr more ↦ let rest = next-some n other xs in (rest.0, rw (le-ltb n x more) rest.1)
]

further-some : (k p x : ℕ) (xs : List ℕ) → (q : ℕ) × (further k p (x ∷ xs) ≡ Some q)
further-some zero p x xs = (p, refl)
further-some (suc k) p x xs =
    let next = next-some p x (x ∷ xs) in
    let rest = further-some k next.0 x xs in
    (rest.0, ap (option_and_then (λ q. further k q (x ∷ xs))) next.1 ∙ rest.1)

nothing : (b : Bool) (last q : ℕ) (other : Option ℕ) → other ≡ Some q → (if b then Some last else other) ≡ None → ⊥
nothing true last q other there e = cc
nothing false last q other there e = cc

pub drawn-none : (stay word made last : ℕ) (ready : List ℕ) → drawn stay word made last ready ≡ None → ready ≡ []
drawn-none stay word made last [] e = refl
drawn-none stay word made last (x ∷ xs) e =
    let there = further-some (word / stay % 4 + 1) (word / stay / 4 % made) x xs in
    absurd (nothing _ last there.0 (drawn_anew (word / stay) made (x ∷ xs)) there.1 e)

-- ---- draws

last-step : (w m i n s : ℕ) → next_state w m i (state_after w m i n s) ≡ state_after w m i (suc n) s
unfolding state_after
last-step w m i zero s = refl
last-step w m i (suc n) s = last-step w m i n (next_state w m i s)

pub lots-step : (seed n : ℕ) → lots_next (lots_after seed n) ≡ lots_after seed (suc n)
unfolding state_after
lots-step seed n =
    ap (λ (s : ℕ). record { stay = stay_of seed; generator = record (generator_after seed n) { state = s } }) (last-step 64 multiplier_64 (generator_after seed n).increment n (generator_after seed 0).state)

-- ---- one further on

pub further-step : (n m p q : ℕ) (ready : List ℕ) → n ≡ suc m → next_of_ready p ready ≡ Some q → further n p ready ≡ further m q ready
further-step n m p q ready is next = ap (λ (k : ℕ). further k p ready) is ∙ ap (option_and_then (λ r. further m r ready)) next

pub further-stop : (n m p : ℕ) (ready : List ℕ) → n ≡ suc m → next_of_ready p ready ≡ None → further n p ready ≡ None
further-stop n m p ready is next = ap (λ (k : ℕ). further k p ready) is ∙ ap (option_and_then (λ r. further m r ready)) next

pub further-end : (n p : ℕ) (ready : List ℕ) → n ≡ 0 → further n p ready ≡ Some p
further-end n p ready is = ap (λ (k : ℕ). further k p ready) is
