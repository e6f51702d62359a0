-- Races of a run, and rows that report them: docs/MACHINE.md, "The order of steps".
use mathlib.Core.Bool.{beq}
use Rattle.std.specs.Prelude.{◌≡◌, ◌≢◌, ◌<◌, ℕ, ◌+◌, Bool, true, ◌&&◌, ◌||◌, if◌then◌else◌, List, [], ◌∷◌, Some, slice_get}
use Rattle.std.specs.List.{Contains}
use Rattle.hep_accesses.specs.Events.{Access, Event}
use Rattle.hep_accesses.specs.HappensBefore.{IsBefore}

-- an access, with the number of its step in the run, from 0, and its process
pub record StepAccess (L S : Type 0) : Type 0 where
  pub step : ℕ
  pub process : ℕ
  pub access : Access L S

-- to the same storage unit, and one of them a store
abbrev pub conflicts : {L S : Type 0} → (L → L → Bool) → Access L S → Access L S → Bool
conflicts same a b = same a.at b.at && (a.stores || b.stores)

module _ {L S : Type 0} (es : List (Event L S)) where
  -- it is an access of its step
  pub record IsAccessOf (d : StepAccess L S) : Type 0 where
    pub event : Event L S
    pub is : slice_get es d.step ≡ Some event
    pub process : event.process ≡ d.process
    pub among : Contains event.accesses d.access

  -- a race: two accesses of different processes that conflict, of which the earlier one isn't before the later one
  pub record IsRace (same : L → L → Bool) (d y : StepAccess L S) : Type 0 where
    pub first : IsAccessOf d
    pub second : IsAccessOf y
    pub earlier : d.step < y.step
    pub different : d.process ≢ y.process
    pub conflict : conflicts same d.access y.access ≡ true
    pub unordered : IsBefore es d.step y.step → ⊥

-- two sites that race: the first access that races with an earlier one of the two, after the latest such earlier one; and how many
-- accesses race with an earlier one
pub record Row (L S : Type 0) : Type 0 where
  pub first : StepAccess L S
  pub second : StepAccess L S
  pub times : ℕ

module _ {L S : Type 0} (alike : S → S → Bool) where
  -- both store or both read, from the same site
  abbrev pub from_same_site : StepAccess L S → StepAccess L S → Bool
  from_same_site d f = alike d.access.site f.access.site && beq d.access.stores f.access.stores

  -- the row is of the sites of these two, in either order
  abbrev pub is_row_of : StepAccess L S → StepAccess L S → Row L S → Bool
  is_row_of d y r =
      (from_same_site d r.first && from_same_site y r.second) || (from_same_site d r.second && from_same_site y r.first)

  abbrev pub of_same_sites : Row L S → Row L S → Bool
  of_same_sites r w = is_row_of r.first r.second w

  -- some row is of the sites of these two
  pub record HasRow (d y : StepAccess L S) (rows : List (Row L S)) : Type 0 where
    pub row : Row L S
    pub listed : Contains rows row
    pub of_them : is_row_of d y row ≡ true

  -- two accesses that race are counted in the row of their sites, or begin one
  abbrev pub with_pair : StepAccess L S → StepAccess L S → List (Row L S) → List (Row L S)
  with_pair d y [] = record { first = d; second = y; times = 1 } ∷ []
  with_pair d y (r ∷ rs) = if is_row_of d y r then record r { times = r.times + 1 } ∷ rs else r ∷ with_pair d y rs

  abbrev pub with_pairs : StepAccess L S → List (StepAccess L S) → List (Row L S) → List (Row L S)
  with_pairs y [] rows = rows
  with_pairs y (d ∷ ds) rows = with_pairs y ds (with_pair d y rows)
