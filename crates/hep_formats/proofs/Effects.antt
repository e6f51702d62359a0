-- Where the effects of a turn begin in a text, and whom it woke.
use Rattle.std.proofs.Common.{◌≡◌, ◌∙◌, ℕ, zero, suc, ◌+◌, ◌<◌, ◌≤◌, ◌++◌, true, false, List, [], ◌∷◌, drop, length, take}
use Rattle.std.proofs.Common.{add-one, ap, arith, append-nil, refl, sym}
use Rattle.std.proofs.lemmas.List.{drop_all, take_all}
use Rattle.hep_formats.specs.TraceLines.{after_wakes, before_effects, begins_effect, begins_wakes}

-- ---- effects

-- a byte at which none begins is part of the action
next-byte : (s : List ℕ) (i : ℕ) → i < length s → begins_effect (drop i s) ≡ false
    → take i s ++ before_effects (drop i s) ≡ take (suc i) s ++ before_effects (drop (suc i) s)
next-byte [] i h e = absurd (omega arith)
next-byte (c ∷ s) zero h e = rw e refl
next-byte (c ∷ s) (suc i) h e = ap (λ (t : List ℕ). c ∷ t) (next-byte s i (omega arith) e)

-- so the action goes on with it
pub goes_on : (s : List ℕ) (i : ℕ) → i < length s → begins_effect (drop i s) ≡ false
    → take i s ++ before_effects (drop i s) ≡ before_effects s → take (i + 1) s ++ before_effects (drop (i + 1) s) ≡ before_effects s
goes_on s i h e so_far = rw add-one (sym (next-byte s i h e) ∙ so_far)

-- where one begins the action ends
none-left : (s : List ℕ) (i : ℕ) → i < length s → begins_effect (drop i s) ≡ true → before_effects (drop i s) ≡ []
none-left [] i h e = absurd (omega arith)
none-left (c ∷ s) zero h e = rw e refl
none-left (c ∷ s) (suc i) h e = none-left s i (omega arith) e

-- and what was before it is the action
pub ends_here : (s : List ℕ) (i : ℕ) → i < length s → begins_effect (drop i s) ≡ true
    → take i s ++ before_effects (drop i s) ≡ before_effects s → take i s ≡ before_effects s
ends_here s i h e so_far = sym (append-nil (take i s)) ∙ ap (λ (t : List ℕ). take i s ++ t) (sym (none-left s i h e)) ∙ so_far

-- where none begins at all, all is the action
pub is_all : (s : List ℕ) (i : ℕ) → length s ≤ i → take i s ++ before_effects (drop i s) ≡ before_effects s → s ≡ before_effects s
is_all s i h so_far =
    sym (append-nil s)
    ∙ ap (λ (t : List ℕ). t ++ []) (sym (take_all i s h))
    ∙ ap (λ (t : List ℕ). take i s ++ before_effects t) (sym (drop_all i s h))
    ∙ so_far

-- ---- whom a turn woke

-- nobody by the words at a byte at which they don't begin
past : (s : List ℕ) (i : ℕ) → i < length s → begins_wakes (drop i s) ≡ false
    → after_wakes (drop i s) ≡ after_wakes (drop (suc i) s)
past [] i h e = absurd (omega arith)
past (c ∷ s) zero h e = rw e refl
past (c ∷ s) (suc i) h e = past s i (omega arith) e

-- so they may begin at a later one
pub wakes_later : (s : List ℕ) (i : ℕ) → i < length s → begins_wakes (drop i s) ≡ false
    → after_wakes (drop i s) ≡ after_wakes s → after_wakes (drop (i + 1) s) ≡ after_wakes s
wakes_later s i h e so_far = rw add-one (sym (past s i h e) ∙ so_far)

-- the processes come after the words
at-words : (s : List ℕ) (i : ℕ) → i < length s → begins_wakes (drop i s) ≡ true
    → after_wakes (drop i s) ≡ drop 8 (drop i s)
at-words [] i h e = absurd (omega arith)
at-words (c ∷ s) zero h e = rw e refl
at-words (c ∷ s) (suc i) h e = at-words s i (omega arith) e

-- and so they come after the words that begin here
pub wakes_here : (s : List ℕ) (i : ℕ) → i < length s → begins_wakes (drop i s) ≡ true
    → after_wakes (drop i s) ≡ after_wakes s → drop 8 (drop i s) ≡ after_wakes s
wakes_here s i h e so_far = sym (at-words s i h e) ∙ so_far

-- where they don't begin at all, it woke nobody
pub wakes_none : (s : List ℕ) (i : ℕ) → length s ≤ i → after_wakes (drop i s) ≡ after_wakes s → [] ≡ after_wakes s
wakes_none s i h so_far = ap after_wakes (sym (drop_all i s h)) ∙ so_far
