-- A level among those of all processes, and the level that is found of an activation.
use Rattle.std.proofs.Common.{◌≡◌, ◌⊎◌, inl, inr, ℕ, zero, suc, ◌+◌, ◌≤◌, Bool, true, false, List, [], ◌∷◌, ◌++◌, Some, refl, sym, ap, ◌∙◌, subst, arith, if◌then◌else◌, nat_eq, slice_get, slice_set, eqb-true, eq-eqb}
use Rattle.std.specs.List.{find, flat_map}
use Rattle.std.proofs.lemmas.Option.{same_Some, none-some}
use Rattle.hep_machine.specs.Words.{activations_on, numbered, Level, Process}
use Rattle.hep_layout.specs.Words.{times, times_on}
use Rattle.hep_layout.proofs.Stacks.{times-append, is_of, all_levels}

-- ---- levels among others

abbrev pub IsAmong : Level → List Level → Type 0
IsAmong level [] = ⊥
IsAmong level (l ∷ ls) = (l ≡ level) ⊎ IsAmong level ls

among-front : (level : Level) (xs ys : List Level) → IsAmong level xs → IsAmong level (xs ++ ys)
among-front level [] ys h = absurd h
among-front level (x ∷ xs) ys (inl same) = inl same
among-front level (x ∷ xs) ys (inr more) = inr (among-front level xs ys more)

among-behind : (level : Level) (xs ys : List Level) → IsAmong level ys → IsAmong level (xs ++ ys)
among-behind level [] ys h = h
among-behind level (x ∷ xs) ys h = inr (among-behind level xs ys h)

pub among-parts : (level : Level) (xs ys : List Level) → IsAmong level (xs ++ ys) → IsAmong level xs ⊎ IsAmong level ys
among-parts level [] ys h = inr h
among-parts level (x ∷ xs) ys (inl same) = inl (inl same)
among-parts level (x ∷ xs) ys (inr more) = elim (among-parts level xs ys more) [ inl front ↦ inl (inr front) | inr behind ↦ inr behind ]

among-at : (level : Level) (qs : List Process) (i : ℕ) (q : Process) → slice_get qs i ≡ Some q → IsAmong level q → IsAmong level (all_levels qs)
among-at level [] i q e h = absurd (none-some q e)
among-at level (r ∷ rs) zero q e h = among-front level r (all_levels rs) (subst (IsAmong level) (sym (same_Some r q e)) h)
among-at level (r ∷ rs) (suc i) q e h = among-behind level r (all_levels rs) (among-at level rs i q e h)

pub among-numbered : (level : Level) (qs : List Process) (p : ℕ) (q : Process) → numbered qs p ≡ Some q → IsAmong level q → IsAmong level (all_levels qs)
among-numbered level qs zero q e h = absurd (none-some q e)
among-numbered level qs (suc i) q e h = among-at level qs i q e h

-- where a process has another stack, each is on that or was there
pub among-set : (level : Level) (qs : List Process) (i : ℕ) (q : Process) → IsAmong level (all_levels (slice_set qs i q)) → IsAmong level q ⊎ IsAmong level (all_levels qs)
among-set level [] i q h = inr h
among-set level (r ∷ rs) zero q h = elim (among-parts level q (all_levels rs) h) [ inl own ↦ inl own | inr other ↦ inr (among-behind level r (all_levels rs) other) ]
among-set level (r ∷ rs) (suc i) q h = elim (among-parts level r (all_levels (slice_set rs i q)) h) [
  | inl front ↦ inr (among-front level r (all_levels rs) front)
  | inr rest ↦ elim (among-set level rs i q rest) [ inl own ↦ inl own | inr other ↦ inr (among-behind level r (all_levels rs) other) ]
]

-- ---- how often an activation is on them

times-levels : (a : ℕ) (xs ys : List Level) → times a (activations_on (xs ++ ys)) ≡ times a (activations_on xs) + times a (activations_on ys)
times-levels a [] ys = omega arith
times-levels a (x ∷ xs) ys = omega (arith, times-levels a xs ys)

pub times-all : (a : ℕ) (qs : List Process) → times a (activations_on (all_levels qs)) ≡ times_on a qs
times-all a [] = refl
times-all a (q ∷ qs) = omega (arith, times-levels a q (all_levels qs), times-append a (activations_on q) (flat_map activations_on qs), times-all a qs)

one-time : (a : ℕ) (l : Level) → l.activation ≡ a → ◌≡◌ {A = ℕ} (if nat_eq a l.activation then 1 else 0) 1
one-time a l same = ap (λ z. if z then 1 else 0) (eq-eqb a l.activation (sym same))

among-times : (a : ℕ) (ls : List Level) (level : Level) → IsAmong level ls → level.activation ≡ a → 1 ≤ times a (activations_on ls)
among-times a [] level h same = absurd h
among-times a (l ∷ ls) level (inl here) same = let one = one-time a l (ap (λ (z : Level). z.activation) here ∙ same) in omega (arith, one)
among-times a (l ∷ ls) level (inr more) same = omega (arith, among-times a ls level more same)

-- ---- the one that is found

pub find-among : (a : ℕ) (ls : List Level) (level : Level) → find (is_of a) ls ≡ Some level → IsAmong level ls × (level.activation ≡ a)
find-among a [] level e = absurd (none-some level e)
find-among a (l ∷ ls) level e = by_test (find-among a ls level) (nat_eq l.activation a) refl e where
  by_test : (find (is_of a) ls ≡ Some level → IsAmong level ls × (level.activation ≡ a)) → (b : Bool) → nat_eq l.activation a ≡ b → (if b then Some l else find (is_of a) ls) ≡ Some level → IsAmong level (l ∷ ls) × (level.activation ≡ a)
  by_test rest true n e = let same = same_Some l level e in (inl same, sym (ap (λ (z : Level). z.activation) same) ∙ eqb-true l.activation a n)
  by_test rest false n e = let more = rest e in (inr more.0, more.1)

pub found : (a : ℕ) (ls : List Level) (level : Level) → times a (activations_on ls) ≤ 1 → IsAmong level ls → level.activation ≡ a → find (is_of a) ls ≡ Some level
found a [] level few h same = absurd h
found a (l ∷ ls) level few (inl here) same =
    ap (λ b. if b then Some l else find (is_of a) ls) (eq-eqb l.activation a (ap (λ (z : Level). z.activation) here ∙ same)) ∙ ap (λ (z : Level). Some z) here
found a (l ∷ ls) level few (inr more) same = by_test (λ few. found a ls level few more same) (nat_eq l.activation a) refl where
  by_test : (times a (activations_on ls) ≤ 1 → find (is_of a) ls ≡ Some level) → (b : Bool) → nat_eq l.activation a ≡ b → (if b then Some l else find (is_of a) ls) ≡ Some level
  by_test rest false n = rest (omega (arith, few))
  by_test rest true n = let one = one-time a l (eqb-true l.activation a n) in absurd (omega (arith, few, one, among-times a ls level more same))
