-- Runs that are counted: one more among tallies, and one more behind others.
use Rattle.std.proofs.Common.{◌≡◌, ℕ, zero, suc, ◌+◌, Bool, true, false, List, [], ◌∷◌, ◌++◌, length, take, drop, Some, ap, ◌∙◌, arith, slice_get, slice_set, if◌then◌else◌}
use Rattle.std.proofs.lemmas.Option.{none-some, same_Some}
use Rattle.hep_outcome.specs.Outcome.{Outcome}
use Rattle.hep_outcome.specs.Tallies.{Tally, counted, is_like, nth_seed, tallied_from, tally_of}

either : (b : Bool) (x y : List Tally) → b ≡ false → (if b then x else y) ≡ y
either b x y off = ap (λ c. if c then x else y) off

one : (b : Bool) (x y : List Tally) → b ≡ true → (if b then x else y) ≡ x
one b x y on = ap (λ c. if c then x else y) on

-- one that is like it is raised
pub counted-here : (new : Tally) (ts : List Tally) (k : ℕ) (t : Tally) → slice_get ts k ≡ Some t → is_like new t ≡ true
    → take k ts ++ counted new (drop k ts) ≡ slice_set ts k (record t { count = t.count + 1 })
counted-here new [] k t at on = absurd (none-some t at)
counted-here new (x ∷ xs) zero t at on =
    one (is_like new x) (record x { count = x.count + 1 } ∷ xs) (x ∷ counted new xs) (ap (is_like new) (same_Some x t at) ∙ on)
    ∙ ap (λ (y : Tally). record y { count = y.count + 1 } ∷ xs) (same_Some x t at)
counted-here new (x ∷ xs) (suc k) t at on = ap (λ ys. x ∷ ys) (counted-here new xs k t at on)

-- ---- runs

pub tallied-more : (seed i : ℕ) (ts : List Tally) (os : List Outcome) (o : Outcome)
    → tallied_from seed i ts (os ++ o ∷ []) ≡ counted (tally_of (nth_seed seed (i + length os)) o) (tallied_from seed i ts os)
tallied-more seed i ts [] o = let none : i ≡ i + 0 = omega arith in ap (λ (n : ℕ). counted (tally_of (nth_seed seed n) o) ts) none
tallied-more seed i ts (x ∷ xs) o =
    let far : suc i + length xs ≡ i + suc (length xs) = omega arith in
    tallied-more seed (suc i) (counted (tally_of (nth_seed seed i) x) ts) xs o
    ∙ ap (λ (n : ℕ). counted (tally_of (nth_seed seed n) o) (tallied_from seed (suc i) (counted (tally_of (nth_seed seed i) x) ts) xs)) far
