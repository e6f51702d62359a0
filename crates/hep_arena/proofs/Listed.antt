-- Where the first number is that is great enough, and the last that isn't 0.
use Rattle.std.proofs.Common.{◌≡◌, ℕ, zero, suc, ◌+◌, ◌-◌, ◌<◌, ◌≤◌, List, [], ◌∷◌, take, drop, Option, Some, None, refl, sym, ap, ◌∙◌, inl, inr, arith}
use Rattle.std.proofs.lemmas.Bool.{cases_lt, lt-ltb, le-ltb}
use Rattle.std.proofs.lemmas.List.{get_or-drop, get_or-take, get_or_past}
use Rattle.hep_arena.specs.Places.{first_from, last_from}
use Rattle.hep_arena.specs.Trees.{number}

pub number-take : (n k : ℕ) (xs : List ℕ) → k < n → number (take n xs) k ≡ number xs k
number-take n k xs h = get_or-take n xs k 0 h

pub take-past : (n k : ℕ) (xs : List ℕ) → n ≤ k → number (take n xs) k ≡ 0
take-past zero k xs h = refl
take-past (suc n) k [] h = refl
take-past (suc n) zero (x ∷ xs) h = absurd (omega arith)
take-past (suc n) (suc k) (x ∷ xs) h = take-past n k xs (omega arith)

-- zeros behind the places say nothing
pub number-seen : (n k : ℕ) (xs : List ℕ) → ((j : ℕ) → n ≤ j → number xs j ≡ 0) → number (take n xs) k ≡ number xs k
number-seen n k xs zeros = elim (cases_lt k n) [
  | inl l ↦ number-take n k xs l
  | inr r ↦ take-past n k xs r ∙ sym (zeros k r)
]

-- and so only places have other numbers
pub place-seen : (n k : ℕ) (xs : List ℕ) → ((j : ℕ) → n ≤ j → number xs j ≡ 0) → 1 ≤ number xs k → k < n
place-seen n k xs zeros some = elim (cases_lt k n) [
  | inl l ↦ l
  | inr r ↦ absurd (omega (arith, zeros k r, some))
]

-- ---- the first that is great enough

pub first-found : (n least k : ℕ) (xs : List ℕ) → 1 ≤ least → least ≤ number xs k → ((j : ℕ) → j < k → number xs j < least) → first_from n least xs ≡ Some (n + k)
first-found n least k [] some great low = absurd (omega (arith, get_or_past {X = ℕ} [] k 0 (omega arith)))
first-found n least zero (x ∷ xs) some great low = rw (le-ltb x least great) (ap Some (omega arith))
first-found n least (suc k) (x ∷ xs) some great low =
    let n' : suc n + k ≡ n + suc k = omega arith in
    rw (lt-ltb x least (low 0 (omega arith))) (first-found (suc n) least k xs some great (λ j h. low (suc j) (omega arith)) ∙ ap Some n')

pub first-none : (n least : ℕ) (xs : List ℕ) → ((j : ℕ) → number xs j < least) → first_from n least xs ≡ None
first-none n least [] low = refl
first-none n least (x ∷ xs) low = rw (lt-ltb x least (low 0)) (first-none (suc n) least xs (λ j. low (suc j)))

-- ---- the last that isn't 0

pub last-none : (n : ℕ) (xs : List ℕ) (before : Option ℕ) → ((j : ℕ) → number xs j ≡ 0) → last_from n xs before ≡ before
last-none n [] before zeros = refl
last-none n (x ∷ xs) before zeros = rw (le-ltb 0 x (omega (arith, zeros 0))) (last-none (suc n) xs before (λ j. zeros (suc j)))

pub last-found : (n k : ℕ) (xs : List ℕ) (before : Option ℕ) → 1 ≤ number xs k → ((j : ℕ) → k < j → number xs j ≡ 0) → last_from n xs before ≡ Some (n + k)
last-found n k [] before some zeros = absurd (omega (arith, get_or_past {X = ℕ} [] k 0 (omega arith)))
last-found n zero (x ∷ xs) before some zeros =
    let n' : n ≡ n + 0 = omega arith in
    rw (lt-ltb 0 x some) (last-none (suc n) xs (Some n) (λ j. zeros (suc j) (omega arith)) ∙ ap Some n')
last-found n (suc k) (x ∷ xs) before some zeros =
    let n' : suc n + k ≡ n + suc k = omega arith in
    last-found (suc n) k xs _ some (λ j h. zeros (suc j) (omega arith)) ∙ ap Some n'

-- ---- from a place on

pub drop-found : (at found : ℕ) (xs : List ℕ) → at ≤ found → 1 ≤ number xs found → ((j : ℕ) → at ≤ j → j < found → number xs j ≡ 0) → first_from at 1 (drop at xs) ≡ Some found
drop-found at found xs from some zeros =
    let sum : at + (found - at) ≡ found = omega arith in
    first-found at 1 (found - at) (drop at xs) (omega arith)
    (omega (arith, get_or-drop at xs (found - at) 0, ap (number xs) sum, some))
    (λ j h. omega (arith, get_or-drop at xs j 0, zeros (at + j) (omega arith) (omega arith)))
    ∙ ap Some sum

pub drop-none : (at : ℕ) (xs : List ℕ) → ((j : ℕ) → at ≤ j → number xs j ≡ 0) → first_from at 1 (drop at xs) ≡ None
drop-none at xs zeros = first-none at 1 (drop at xs) (λ j. omega (arith, get_or-drop at xs j 0, zeros (at + j) (omega arith)))
