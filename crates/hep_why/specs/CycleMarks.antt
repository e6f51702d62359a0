-- The cycles that are noted, while walks go from each index to the next one: docs/ARCHITECTURE.md, "Forms".
use Rattle.std.specs.Prelude.{◌≡◌, ◌<◌, ℕ, Bool, true, List, length, Option, Some, slice_get}
use Rattle.hep_why.specs.WaitCycles.{circle_at}

-- an index is in the cycle that begins with a first one
pub record IsIn (nexts : List (Option ℕ)) (first : ℕ) (i : ℕ) : Type 0 where
  pub circle : List ℕ
  pub is : circle_at nexts first ≡ Some circle
  pub place : ℕ
  pub there : slice_get circle place ≡ Some i

-- the cycle of an index, if it is in one, is noted at its first index
abbrev pub IsNoted : List (Option ℕ) → List Bool → ℕ → Type 0
IsNoted nexts noted i = (first : ℕ) → IsIn nexts first i → slice_get noted first ≡ Some true

-- the same for all indexes that were visited
abbrev pub AreNoted : List (Option ℕ) → List (Option ℕ) → List Bool → Type 0
AreNoted nexts visits noted = (i walk : ℕ) → slice_get visits i ≡ Some (Some walk) → IsNoted nexts noted i

-- walks from the first indexes, as many as given, have been made
pub record HaveWalked (nexts : List (Option ℕ)) (visits : List (Option ℕ)) (noted : List Bool) (count : ℕ) : Type 0 where
  pub room : length visits ≡ length nexts
  pub notes : length noted ≡ length nexts
  pub visited : AreNoted nexts visits noted
  pub begun : (i : ℕ) → i < count → IsNoted nexts noted i

-- each cycle is noted at its first index
abbrev pub AreAllNoted : List (Option ℕ) → List Bool → Type 0
AreAllNoted nexts noted = (first : ℕ) (circle : List ℕ) → circle_at nexts first ≡ Some circle → slice_get noted first ≡ Some true
