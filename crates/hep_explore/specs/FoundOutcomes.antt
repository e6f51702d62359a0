-- The outcomes that a search lists: docs/MACHINE.md, "Endings".
use Rattle.std.specs.Prelude.{◌≡◌, ◌<◌, ◌&&◌, ◌++◌, ℕ, Bool, if◌then◌else◌, nat_eq, List, [], ◌∷◌, slice_get, Some}
use Rattle.std.specs.List.{list_any}
use Rattle.std.specs.Str.{bytes_eq}
use Rattle.hep_machine.specs.Words.{Units}
use Rattle.hep_outcome.specs.Outcome.{Outcome}
use Rattle.hep_explore.specs.Explored.{Found, IsFoundOf}
use Rattle.hep_explore.specs.Possible.{IsPossibleBy}
use Rattle.hep_explore.specs.Searching.{IsPathTo, Known}

-- ---- lists of outcomes

abbrev pub is_like : Found → Found → Bool
is_like a b = nat_eq a.status b.status && bytes_eq a.lines b.lines

-- with one more outcome, unless one with the same status and lines is among them
abbrev pub with_found : Found → List Found → List Found
with_found one all = if list_any (is_like one) all then all else all ++ one ∷ []

-- no two of these have the same status and lines
abbrev pub AreDifferent : List Found → Type 0
AreDifferent all =
    (i j : ℕ) (a b : Found) → slice_get all i ≡ Some a → slice_get all j ≡ Some b → a.status ≡ b.status → a.lines ≡ b.lines → i ≡ j

-- ---- what they are outcomes of

-- an outcome is possible by its choices
pub record IsFoundBy (program : Units) (cells : ℕ) (found : Found) : Type 0 where
  pub outcome : Outcome
  pub possible : IsPossibleBy program cells found.choices outcome
  pub is_found : IsFoundOf outcome found

-- each of these is, and no two are the same
pub record AreOutcomes (program : Units) (cells : ℕ) (all : List Found) : Type 0 where
  pub each : (i : ℕ) (found : Found) → slice_get all i ≡ Some found → IsFoundBy program cells found
  pub different : AreDifferent all

-- an outcome of these choices is among them
pub record IsOutcomeBy (program : Units) (cells : ℕ) (choices : List ℕ) (all : List Found) : Type 0 where
  pub outcome : Outcome
  pub possible : IsPossibleBy program cells choices outcome
  pub place : ℕ
  pub found : Found
  pub at : slice_get all place ≡ Some found
  pub is_found : IsFoundOf outcome found

-- an outcome of steps that lead to the state with a number is
pub record IsListed (program : Units) (cells : ℕ) (s : Known) (i : ℕ) (all : List Found) : Type 0 where
  pub choices : List ℕ
  pub path : IsPathTo program s i choices
  pub listed : IsOutcomeBy program cells choices all

-- so it is for the first states in which no process has a step
abbrev pub AreListed : Units → ℕ → Known → ℕ → List Found → Type 0
AreListed program cells s n all = (k i : ℕ) → k < n → slice_get s.ended k ≡ Some i → IsListed program cells s i all

-- the new list begins with the old one
abbrev pub KeepsFound : List Found → List Found → Type 0
KeepsFound old new = (i : ℕ) (found : Found) → slice_get old i ≡ Some found → slice_get new i ≡ Some found
