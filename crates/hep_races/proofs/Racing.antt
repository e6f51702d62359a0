-- The races of one access, with one more earlier access at its storage unit.
use Rattle.std.proofs.Common.{◌≡◌, ℕ, ◌+◌, ◌<◌, Bool, true, false, not, ◌&&◌, ◌||◌, cond, if◌then◌else◌, nat_eq, List, [], ◌∷◌}
use Rattle.std.proofs.Common.{◌++◌, length, take, map, get_or}
use Rattle.std.proofs.Common.{refl, sym, ap, ◌∙◌, append-nil}
use Rattle.std.specs.List.{filter, list_any}
use Rattle.std.proofs.lemmas.List.{map-append, take_more}
use Rattle.std.proofs.lemmas.List.Elements.{filter-append}
use Rattle.hep_accesses.specs.Clocks.{Clock}
use Rattle.hep_accesses.specs.Detector.{is_racing_by_clock, racing_by_clock}
use Rattle.hep_accesses.specs.Firsts.{first_of_each}
use Rattle.hep_accesses.specs.Races.{Row as ARow, StepAccess as AStepAccess, from_same_site, with_pair, with_pairs}
use Rattle.hep_races.specs.declared.event.StepAccess.{StepAccess}
use Rattle.hep_races.specs.declared.storage_unit.StorageUnit.{StorageUnit}
use Rattle.hep_races.specs.LatestRaces.{is_latest_race, is_race, rows_with_races}
use Rattle.hep_races.specs.Observed.{step_access_in, unit_eq}

-- ---- lists

module _ {X : Type 0} where
  -- the first of each kind, with one more element behind
  firsts-append : (like : X → X → Bool) (xs : List X) (x : X)
      → first_of_each like (xs ++ x ∷ []) ≡ first_of_each like xs ++ (if list_any (λ w. like w x) xs then [] else x ∷ [])
  firsts-append like [] x = refl
  firsts-append like (z ∷ zs) x =
      ap (λ ys. z ∷ filter (λ y. not (like z y)) ys) (firsts-append like zs x)
      ∙ ap (λ ys. z ∷ ys) (
      filter-append (λ y. not (like z y)) (first_of_each like zs) (if list_any (λ w. like w x) zs then [] else x ∷ [])
      ∙ ap (λ ys. filter (λ y. not (like z y)) (first_of_each like zs) ++ ys) (last (list_any (λ w. like w x) zs) (like z x) refl))
    where
      last : (a b : Bool) → like z x ≡ b → filter (λ y. not (like z y)) (if a then [] else x ∷ []) ≡ (if b || a then [] else x ∷ [])
      last true true e = refl
      last true false e = refl
      last false true e = ap (λ c. cond (not c) (x ∷ []) []) e
      last false false e = ap (λ c. cond (not c) (x ∷ []) []) e

  -- some element passes both tests where some of those that pass the one passes the other
  any-filtered : (q p : X → Bool) (xs : List X) → list_any p (filter q xs) ≡ list_any (λ w. q w && p w) xs
  any-filtered q p [] = refl
  any-filtered q p (x ∷ xs) = by (q x) (any-filtered q p xs)
    where
      by : (b : Bool) → list_any p (filter q xs) ≡ list_any (λ w. q w && p w) xs
          → list_any p (cond b (x ∷ filter q xs) (filter q xs)) ≡ ((b && p x) || list_any (λ w. q w && p w) xs)
      by true r = ap (λ c. p x || c) r
      by false r = r

  -- the first of each kind of those that pass a test, with one more element behind
  firsts_that-append : (like : X → X → Bool) (q : X → Bool) (xs : List X) (x : X)
      → first_of_each like (filter q (xs ++ x ∷ []))
      ≡ first_of_each like (filter q xs) ++ (if q x && not (list_any (λ w. q w && like w x) xs) then x ∷ [] else [])
  firsts_that-append like q xs x = ap (first_of_each like) (filter-append q xs (x ∷ [])) ∙ by (q x)
    where
      turned : (b : Bool) → (if b then [] else x ∷ []) ≡ (if not b then x ∷ [] else [])
      turned true = refl
      turned false = refl

      by : (b : Bool) → first_of_each like (filter q xs ++ cond b (x ∷ []) [])
          ≡ first_of_each like (filter q xs) ++ (if b && not (list_any (λ w. q w && like w x) xs) then x ∷ [] else [])
      by true =
          firsts-append like (filter q xs) x
          ∙ ap (λ b. first_of_each like (filter q xs) ++ (if b then [] else x ∷ [])) (any-filtered q (λ w. like w x) xs)
          ∙ ap (λ ys. first_of_each like (filter q xs) ++ ys) (turned (list_any (λ w. q w && like w x) xs))
      by false = ap (first_of_each like) (append-nil (filter q xs)) ∙ sym (append-nil (first_of_each like (filter q xs)))

-- those of a mapped list that pass are mapped from those whose image passes
pub map-filtered : {X Y : Type 0} (f : X → Y) (p : Y → Bool) (xs : List X) → map f (filter (λ x. p (f x)) xs) ≡ filter p (map f xs)
map-filtered f p [] = refl
map-filtered f p (x ∷ xs) = by (p (f x)) (map-filtered f p xs)
  where
    by : (b : Bool) → map f (filter (λ z. p (f z)) xs) ≡ filter p (map f xs)
        → map f (cond b (x ∷ filter (λ z. p (f z)) xs) (filter (λ z. p (f z)) xs))
        ≡ cond b (f x ∷ filter p (map f xs)) (filter p (map f xs))
    by true rest = ap (λ ys. f x ∷ ys) rest
    by false rest = rest

-- some element of a mapped list passes where its source does
any-mapped : {X Y : Type 0} (f : X → Y) (p : Y → Bool) (xs : List X) → list_any p (map f xs) ≡ list_any (λ x. p (f x)) xs
any-mapped f p [] = refl
any-mapped f p (x ∷ xs) = ap (λ b. p (f x) || b) (any-mapped f p xs)

-- ---- rows

-- one pair more behind
pairs-append : (y : AStepAccess StorageUnit ℕ) (ds : List (AStepAccess StorageUnit ℕ)) (d : AStepAccess StorageUnit ℕ)
    (rows : List (ARow StorageUnit ℕ)) → with_pairs nat_eq y (ds ++ d ∷ []) rows ≡ with_pair nat_eq d y (with_pairs nat_eq y ds rows)
pairs-append y [] d rows = refl
pairs-append y (x ∷ ds) d rows = pairs-append y ds d (with_pair nat_eq x y rows)

module _ (clock : Clock) (y : StepAccess) where
  -- an earlier access races with y
  abbrev test : AStepAccess StorageUnit ℕ → Bool
  test = is_racing_by_clock unit_eq nat_eq clock (step_access_in y)

  -- the accesses that race with y
  abbrev found : List StepAccess → List (AStepAccess StorageUnit ℕ)
  found ds = racing_by_clock unit_eq nat_eq clock (step_access_in y) (map step_access_in ds)

  -- one access more
  rows-with_one : (ds : List StepAccess) (d : StepAccess) (before : List (ARow StorageUnit ℕ))
      → rows_with_races clock y (ds ++ d ∷ []) before
      ≡ (if is_latest_race clock y ds d
      then with_pair nat_eq (step_access_in d) (step_access_in y) (rows_with_races clock y ds before)
      else rows_with_races clock y ds before)
  rows-with_one ds d before =
      ap (λ es. with_pairs nat_eq (step_access_in y) (racing_by_clock unit_eq nat_eq clock (step_access_in y) es) before)
      (map-append step_access_in ds (d ∷ []))
      ∙ ap (λ es. with_pairs nat_eq (step_access_in y) es before) (
      firsts_that-append (from_same_site nat_eq) test (map step_access_in ds) (step_access_in d)
      ∙ ap (λ b. racing_by_clock unit_eq nat_eq clock (step_access_in y) (map step_access_in ds)
      ++ (if is_race clock y d && not b then step_access_in d ∷ [] else []))
      (any-mapped step_access_in (λ w. test w && from_same_site nat_eq w (step_access_in d)) ds))
      ∙ by (is_latest_race clock y ds d)
    where
      by : (b : Bool) → with_pairs nat_eq (step_access_in y) (found ds ++ (if b then step_access_in d ∷ [] else [])) before
          ≡ (if b
          then with_pair nat_eq (step_access_in d) (step_access_in y) (rows_with_races clock y ds before)
          else rows_with_races clock y ds before)
      by true = pairs-append (step_access_in y) (found ds) (step_access_in d) before
      by false = ap (λ es. with_pairs nat_eq (step_access_in y) es before) (append-nil (found ds))

  -- one access more of a list
  rows-with_next : (list : List StepAccess) (i : ℕ) (default : StepAccess) (before : List (ARow StorageUnit ℕ)) → i < length list
      → rows_with_races clock y (take (i + 1) list) before
      ≡ (if is_latest_race clock y (take i list) (get_or list i default)
      then with_pair nat_eq (step_access_in (get_or list i default)) (step_access_in y) (rows_with_races clock y (take i list) before)
      else rows_with_races clock y (take i list) before)
  rows-with_next list i default before within =
      ap (λ ds. rows_with_races clock y ds before) (take_more list i default within)
      ∙ rows-with_one (take i list) (get_or list i default) before

  -- where it begins a race
  pub rows-with_race : (list : List StepAccess) (i : ℕ) (default : StepAccess) (rows after before : List (ARow StorageUnit ℕ))
      → i < length list → is_latest_race clock y (take i list) (get_or list i default) ≡ true
      → after ≡ with_pair nat_eq (step_access_in (get_or list i default)) (step_access_in y) rows
      → rows ≡ rows_with_races clock y (take i list) before → after ≡ rows_with_races clock y (take (i + 1) list) before
  rows-with_race list i default rows after before within does added so_far =
      added ∙ ap (with_pair nat_eq (step_access_in (get_or list i default)) (step_access_in y)) so_far
      ∙ sym (
      rows-with_next list i default before within
      ∙ ap (λ b.
      if b
      then with_pair nat_eq (step_access_in (get_or list i default)) (step_access_in y) (rows_with_races clock y (take i list) before)
      else rows_with_races clock y (take i list) before) does)

  -- where it begins none
  pub rows-without_race : (list : List StepAccess) (i : ℕ) (default : StepAccess) (rows before : List (ARow StorageUnit ℕ))
      → i < length list → is_latest_race clock y (take i list) (get_or list i default) ≡ false
      → rows ≡ rows_with_races clock y (take i list) before
      → rows ≡ rows_with_races clock y (take (i + 1) list) before
  rows-without_race list i default rows before within does so_far =
      so_far
      ∙ sym (
      rows-with_next list i default before within
      ∙ ap (λ b.
      if b
      then with_pair nat_eq (step_access_in (get_or list i default)) (step_access_in y) (rows_with_races clock y (take i list) before)
      else rows_with_races clock y (take i list) before) does)
