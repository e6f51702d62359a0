-- Slots that come back from a loan: what the list is then.
use Rattle.hep_arena.proofs.Lists.{get-set_other, get-set_same}
use Rattle.std.proofs.Common.{◌≡◌, ◌⊎◌, ℕ, zero, suc, ◌+◌, ◌-◌, ◌<◌, ◌≤◌, List, [], ◌∷◌, ◌++◌, length, length-append, length-drop, length-set, length-take, take, drop, Some, None, slice_get, slice_range, set, refl, ap, arith, if◌then◌else◌, min, nat_eq, nat_lt}
use Rattle.std.proofs.lemmas.Bool.Decides.{nat_tests}
use Rattle.hep_machine.specs.declared.slot.Slot.{Slot}
use Rattle.hep_arena.specs.Lending.{with_run}

-- ---- what is at an index

get-append : (xs ys : List Slot) (k : ℕ) → slice_get (xs ++ ys) k ≡ (if nat_lt k (length xs) then slice_get xs k else slice_get ys (k - length xs))
get-append [] ys k = grind (arith, nat_tests)
get-append (x ∷ xs) ys zero = grind (arith, nat_tests)
get-append (x ∷ xs) ys (suc k) = grind (arith, nat_tests, get-append xs ys k)

get-take : (n : ℕ) (xs : List Slot) (k : ℕ) → slice_get (take n xs) k ≡ (if nat_lt k n then slice_get xs k else None)
get-take zero xs k = grind (arith, nat_tests)
get-take (suc n) [] k = grind (arith, nat_tests)
get-take (suc n) (x ∷ xs) zero = grind (arith, nat_tests)
get-take (suc n) (x ∷ xs) (suc k) = grind (arith, nat_tests, get-take n xs k)

get-drop : (n : ℕ) (xs : List Slot) (k : ℕ) → slice_get (drop n xs) k ≡ slice_get xs (n + k)
get-drop zero xs k = grind arith
get-drop (suc n) [] k = refl
get-drop (suc n) (x ∷ xs) k = grind (arith, get-drop n xs k)

get-set : (xs : List Slot) (i k : ℕ) (x : Slot) → i < length xs → slice_get (set xs i x) k ≡ (if nat_eq k i then Some x else slice_get xs k)
get-set xs i k x less = grind (arith, nat_tests, get-set_same xs i x less, get-set_other xs i k x)

lists-same : (xs ys : List Slot) → ((k : ℕ) → slice_get xs k ≡ slice_get ys k) → xs ≡ ys
lists-same [] [] h = refl
lists-same [] (y ∷ ys) h = let first = h 0 in absurd cc
lists-same (x ∷ xs) [] h = let first = h 0 in absurd cc
lists-same (x ∷ xs) (y ∷ ys) h = let first = h 0 in let rest = lists-same xs ys (λ k. h (suc k)) in cc

-- ---- a loan

pub range-get : (xs : List Slot) (at n i : ℕ) → i < n → slice_get (slice_range xs at (at + n)) i ≡ slice_get xs (at + i)
range-get xs at n i less = grind (arith, nat_tests, get-take (at + n - at) (drop at xs) i, get-drop at xs i)

pub length-with_run : (xs : List Slot) (at n : ℕ) (ys : List Slot) → length (with_run xs at n ys) ≡ length xs
length-with_run xs at n ys = simp (length-append, length-take, length-drop) (omega arith)

get-with_run : (xs : List Slot) (at n : ℕ) (ys : List Slot) (k : ℕ) → at + n ≤ length xs
    → slice_get (with_run xs at n ys) k ≡ (if nat_lt k at then slice_get xs k else (if nat_lt k (at + min n (length ys)) then slice_get ys (k - at) else slice_get xs k))
get-with_run xs at n ys k le = simp (get-append, get-take, get-drop, length-append, length-take, length-drop) (grind (arith, nat_tests))

pub with_run-other : (xs : List Slot) (at n : ℕ) (ys : List Slot) (k : ℕ) → at + n ≤ length xs → (k < at) ⊎ (at + n ≤ k) → slice_get (with_run xs at n ys) k ≡ slice_get xs k
with_run-other xs at n ys k le o = grind (arith, nat_tests, get-with_run xs at n ys k le)

pub with_run-inside : (xs : List Slot) (at n : ℕ) (ys : List Slot) (k : ℕ) → at + n ≤ length xs → length ys ≡ n → k < n → slice_get (with_run xs at n ys) (at + k) ≡ slice_get ys k
with_run-inside xs at n ys k le long less = grind (arith, nat_tests, get-with_run xs at n ys (at + k) le)

-- one slot is written through it
pub with_run-set : (xs : List Slot) (at n i : ℕ) (slot : Slot) → at + n ≤ length xs → i < n → with_run xs at n (set (slice_range xs at (at + n)) i slot) ≡ set xs (at + i) slot
with_run-set xs at n i slot le less =
    let lent = slice_range xs at (at + n) in
    let long : length (slice_range xs at (at + n)) ≡ n = simp (length-take, length-drop) (omega arith) in
    lists-same (with_run xs at n (set lent i slot)) (set xs (at + i) slot) (λ k.
    grind (
      arith,
      nat_tests,
      long,
      length-set lent i slot,
      get-with_run xs at n (set lent i slot) k le,
      get-set xs (at + i) k slot (omega arith),
      get-set lent i (k - at) slot (omega (arith, long)),
      λ (up : at ≤ k) (low : k - at < n). range-get xs at n (k - at) low,
    ))

-- all slots are lent, and as many come back
pub whole-with_run : (xs ys : List Slot) → length ys ≡ length xs → with_run xs 0 (length xs) ys ≡ ys
whole-with_run [] [] long = refl
whole-with_run [] (y ∷ ys) long = absurd (omega (arith, long))
whole-with_run (x ∷ xs) [] long = absurd (omega (arith, long))
whole-with_run (x ∷ xs) (y ∷ ys) long = ap (λ (l : List Slot). y ∷ l) (whole-with_run xs ys (omega (arith, long)))
