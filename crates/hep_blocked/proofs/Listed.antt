-- The numbers where marks are set: after a mark is set or taken away, which comes first above a number, and where there is none.
use Rattle.std.proofs.Common.{◌≡◌, ℕ, zero, suc, ◌+◌, ◌*◌, ◌<◌, ◌≤◌, Bool, true, false, List, [], ◌∷◌, ◌++◌, length, length-drop, drop, replicate, set, Option, Some, None, refl, sym, ap, ◌∙◌, inl, inr, arith, ◌==◌, nat_lt, not, slice_get}
use Rattle.std.proofs.lemmas.Bool.{cases_lt, lt-ltb, le-ltb, ne_eqb, eq-eqb}
use Rattle.std.proofs.lemmas.List.{get_or_past}
use Rattle.hep_machine.specs.Words.{first_above, is_number_among, without}
use Rattle.hep_blocked.specs.Numbers.{AreRising, numbers_from, with_number}
use Rattle.hep_arena.specs.Trees.{number}

-- ---- a number below all of them

with_number-below : (p n : ℕ) (ms : List ℕ) → p < n → with_number p (numbers_from n ms) ≡ p ∷ numbers_from n ms
with_number-below p n [] h = refl
with_number-below p n (suc m ∷ ms) h = rw (lt-ltb p n h) refl
with_number-below p n (zero ∷ ms) h = with_number-below p (suc n) ms (omega arith)

pub without-below : (p n : ℕ) (ms : List ℕ) → p < n → without p (numbers_from n ms) ≡ numbers_from n ms
without-below p n [] h = refl
without-below p n (suc m ∷ ms) h = rw (ne_eqb p n (λ same. omega arith)) (ap (λ (xs : List ℕ). n ∷ xs) (without-below p (suc n) ms (omega arith)))
without-below p n (zero ∷ ms) h = without-below p (suc n) ms (omega arith)

pub without-above : (p n : ℕ) (ms : List ℕ) → n + length ms ≤ p → without p (numbers_from n ms) ≡ numbers_from n ms
without-above p n [] h = refl
without-above p n (suc m ∷ ms) h = rw (ne_eqb p n (λ same. omega arith)) (ap (λ (xs : List ℕ). n ∷ xs) (without-above p (suc n) ms (omega arith)))
without-above p n (zero ∷ ms) h = without-above p (suc n) ms (omega arith)

-- ---- a mark is set or taken away

pub numbers-with : (n i p : ℕ) (ms : List ℕ) → i < length ms → p ≡ n + i → numbers_from n (set ms i 1) ≡ with_number p (numbers_from n ms)
numbers-with n i p [] h e = absurd (omega arith)
numbers-with n zero p (suc m ∷ ms) h e = rw (le-ltb p n (omega arith), eq-eqb p n (omega arith)) refl
numbers-with n zero p (zero ∷ ms) h e =
    let same : p ≡ n = omega arith in
    ap (λ (m : ℕ). m ∷ numbers_from (suc n) ms) (sym same) ∙ sym (with_number-below p (suc n) ms (omega arith))
numbers-with n (suc i) p (suc m ∷ ms) h e =
    rw (le-ltb p n (omega arith), ne_eqb p n (λ same. omega arith)) (ap (λ (xs : List ℕ). n ∷ xs) (numbers-with (suc n) i p ms (omega arith) (omega arith)))
numbers-with n (suc i) p (zero ∷ ms) h e = numbers-with (suc n) i p ms (omega arith) (omega arith)

pub numbers-without : (n i p : ℕ) (ms : List ℕ) → p ≡ n + i → numbers_from n (set ms i 0) ≡ without p (numbers_from n ms)
numbers-without n i p [] e = refl
numbers-without n zero p (suc m ∷ ms) e = rw (eq-eqb p n (omega arith)) (sym (without-below p (suc n) ms (omega arith)))
numbers-without n zero p (zero ∷ ms) e = sym (without-below p (suc n) ms (omega arith))
numbers-without n (suc i) p (suc m ∷ ms) e = rw (ne_eqb p n (λ same. omega arith)) (ap (λ (xs : List ℕ). n ∷ xs) (numbers-without (suc n) i p ms (omega arith)))
numbers-without n (suc i) p (zero ∷ ms) e = numbers-without (suc n) i p ms (omega arith)

-- ---- marks behind that aren't set

pub numbers-behind : (n added : ℕ) (ms : List ℕ) → numbers_from n (ms ++ replicate added 0) ≡ numbers_from n ms
numbers-behind n zero [] = refl
numbers-behind n (suc k) [] = numbers-behind (suc n) k []
numbers-behind n k (suc m ∷ ms) = ap (λ (xs : List ℕ). n ∷ xs) (numbers-behind (suc n) k ms)
numbers-behind n k (zero ∷ ms) = numbers-behind (suc n) k ms

-- ---- the first above a number

pub first-found : (last n k : ℕ) (ms : List ℕ) (other : Option ℕ) → 1 ≤ number ms k → last < n + k → ((j : ℕ) → last < n + j → j < k → number ms j ≡ 0) → first_above last (numbers_from n ms) other ≡ Some (n + k)
first-found last n k [] other on above off = absurd (omega (arith, get_or_past {X = ℕ} [] k 0 (omega arith)))
first-found last n zero (suc m ∷ ms) other on above off = rw (lt-ltb last n (omega arith)) (ap Some (omega arith))
first-found last n zero (zero ∷ ms) other on above off = absurd (omega (arith, on))
first-found last n (suc k) (suc m ∷ ms) other on above off =
    let low : n ≤ last = elim (cases_lt last n) [ inl l ↦ absurd (omega (arith, off 0 (omega arith) (omega arith))) | inr r ↦ r ] in
    let n' : suc n + k ≡ n + suc k = omega arith in
    rw (le-ltb last n low) (first-found last (suc n) k ms other on (omega arith) (λ j low high. off (suc j) (omega arith) (omega arith)) ∙ ap Some n')
first-found last n (suc k) (zero ∷ ms) other on above off =
    let n' : suc n + k ≡ n + suc k = omega arith in
    first-found last (suc n) k ms other on (omega arith) (λ j low high. off (suc j) (omega arith) (omega arith)) ∙ ap Some n'

pub first-none : (last n : ℕ) (ms : List ℕ) (other : Option ℕ) → ((j : ℕ) → last < n + j → number ms j ≡ 0) → first_above last (numbers_from n ms) other ≡ other
first-none last n [] other off = refl
first-none last n (suc m ∷ ms) other off =
    let low : n ≤ last = elim (cases_lt last n) [ inl l ↦ absurd (omega (arith, off 0 (omega arith))) | inr r ↦ r ] in
    rw (le-ltb last n low) (first-none last (suc n) ms other (λ j low. off (suc j) (omega arith)))
first-none last n (zero ∷ ms) other off = first-none last (suc n) ms other (λ j low. off (suc j) (omega arith))

-- the other answer counts just where there is none above
pub first-some : (last p : ℕ) (xs : List ℕ) (other : Option ℕ) → first_above last xs None ≡ Some p → first_above last xs other ≡ Some p
first-some last p [] other e = cc
first-some last p (x ∷ xs) other e = elim (cases_lt last x) [
  | inl l ↦ rw (lt-ltb last x l) (rw (lt-ltb last x l) at e)
  | inr r ↦ rw (le-ltb last x r) (first-some last p xs other (rw (le-ltb last x r) at e))
]

pub first-other : (last : ℕ) (xs : List ℕ) (other : Option ℕ) → first_above last xs None ≡ None → first_above last xs other ≡ other
first-other last [] other e = refl
first-other last (x ∷ xs) other e = elim (cases_lt last x) [
  | inl l ↦ cc (rw (lt-ltb last x l) at e)
  | inr r ↦ rw (le-ltb last x r) (first-other last xs other (rw (le-ltb last x r) at e))
]

-- above 0 it is the first of all
pub first-least : (greatest : ℕ) (xs : List ℕ) → AreRising 1 greatest xs → first_above 0 xs None ≡ slice_get xs 0
first-least greatest [] r = refl
first-least greatest (x ∷ xs) r = rw (lt-ltb 0 x (omega (arith, r.0))) refl

-- ---- none

pub numbers-none : (n : ℕ) (ms : List ℕ) → ((k : ℕ) → number ms k < 1) → numbers_from n ms ≡ []
numbers-none n [] off = refl
numbers-none n (suc m ∷ ms) off = absurd (omega (arith, off 0))
numbers-none n (zero ∷ ms) off = numbers-none (suc n) ms (λ k. off (suc k))

pub numbers-some : (n k : ℕ) (ms : List ℕ) → 1 ≤ number ms k → 0 < length (numbers_from n ms)
numbers-some n k [] on = absurd (omega (arith, get_or_past {X = ℕ} [] k 0 (omega arith)))
numbers-some n k (suc m ∷ ms) on = omega arith
numbers-some n zero (zero ∷ ms) on = absurd (omega (arith, on))
numbers-some n (suc k) (zero ∷ ms) on = numbers-some (suc n) k ms on

pub empty-told : (n : ℕ) (ms : List ℕ) (b : Bool) → (b ≡ true → (k : ℕ) × (1 ≤ number ms k)) → (b ≡ false → (k : ℕ) → number ms k < 1) → not b ≡ (length (numbers_from n ms) == 0)
empty-told n ms true some none =
    let r = some refl in
    sym (ne_eqb (length (numbers_from n ms)) 0 (λ e. omega (arith, numbers-some n r.0 ms r.1)))
empty-told n ms false some none = sym (eq-eqb (length (numbers_from n ms)) 0 (ap length (numbers-none n ms (none refl))))

-- ---- in rising order

pub numbers-rise : (least n greatest : ℕ) (ms : List ℕ) → least ≤ n → n + length ms ≤ greatest + 1 → AreRising least greatest (numbers_from n ms)
numbers-rise least n greatest [] from to = tt
numbers-rise least n greatest (suc m ∷ ms) from to = (from, omega arith, numbers-rise (n + 1) (suc n) greatest ms (omega arith) (omega arith))
numbers-rise least n greatest (zero ∷ ms) from to = numbers-rise least (suc n) greatest ms (omega arith) (omega arith)

pub rise-from_one : (size : ℕ) (marks : List ℕ) → length marks ≡ 2 * size → AreRising 1 size (numbers_from 1 (drop size marks))
rise-from_one size marks nodes = numbers-rise 1 1 size (drop size marks) (omega arith) (omega (arith, length-drop size marks))

-- ---- whether a number is one of them

pub among-before : (n q : ℕ) (ms : List ℕ) → q < n → is_number_among q (numbers_from n ms) ≡ false
among-before n q [] h = refl
among-before n q (suc m ∷ ms) h = rw (ne_eqb q n (λ same. omega arith)) (among-before (suc n) q ms (omega arith))
among-before n q (zero ∷ ms) h = among-before (suc n) q ms (omega arith)

pub among-marked : (n i q : ℕ) (ms : List ℕ) → q ≡ n + i → is_number_among q (numbers_from n ms) ≡ nat_lt 0 (number ms i)
among-marked n i q [] e = refl
among-marked n zero q (suc m ∷ ms) e = rw (eq-eqb q n (omega arith)) (sym (lt-ltb 0 (suc m) (omega arith)))
among-marked n zero q (zero ∷ ms) e = among-before (suc n) q ms (omega arith)
among-marked n (suc i) q (suc m ∷ ms) e = rw (ne_eqb q n (λ same. omega arith)) (among-marked (suc n) i q ms (omega arith))
among-marked n (suc i) q (zero ∷ ms) e = among-marked (suc n) i q ms (omega arith)

pub among-past : (n q : ℕ) (ms : List ℕ) → n + length ms ≤ q → is_number_among q (numbers_from n ms) ≡ false
among-past n q [] h = refl
among-past n q (suc m ∷ ms) h = rw (ne_eqb q n (λ same. omega arith)) (among-past (suc n) q ms (omega arith))
among-past n q (zero ∷ ms) h = among-past (suc n) q ms (omega arith)
