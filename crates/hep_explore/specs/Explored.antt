-- All outcomes of a program, as a search finds them: docs/MACHINE.md, "Endings".
use Rattle.std.specs.Prelude.{◌≡◌, ◌&&◌, ◌||◌, ℕ, Bool, true, false, if◌then◌else◌, nat_eq, List, [], ◌∷◌, ◌++◌, length, codes, Some}
use Rattle.std.specs.Prelude.{slice_get}
use Rattle.std.specs.Fmt.{decimal}
use Rattle.std.specs.List.{flat_map, starts_with}
use Rattle.hep_machine.specs.Words.{Units}
use Rattle.hep_outcome.specs.Outcome.{Outcome}
use Rattle.hep_outcome.specs.Statuses.{status_code}
use Rattle.hep_outcome.specs.Tallies.{lines_of}
use Rattle.hep_explore.specs.Possible.{IsPossible, IsPossibleBy}

-- ---- outcomes that are found

-- an outcome that is found: its exit status, its lines, the records first, and choices that lead to it
pub record Found : Type 0 where
  pub status : ℕ
  pub lines : List ℕ
  pub choices : List ℕ

-- this is what is found of an outcome
pub record IsFoundOf (o : Outcome) (found : Found) : Type 0 where
  pub status : found.status ≡ status_code o.status
  pub lines : found.lines ≡ lines_of o

-- a search of a program in an arena of so many cells has found these: each is possible by its choices, no two have the same status and
-- lines, and where the search is complete, each outcome that is possible is found
pub record IsExplored (program : Units) (cells : ℕ) (all : List Found) (complete : Bool) : Type 0 where
  pub possible : (i : ℕ) (found : Found) → slice_get all i ≡ Some found
      → (o : Outcome) × IsPossibleBy program cells found.choices o × IsFoundOf o found
  pub different : (i j : ℕ) (a b : Found) → slice_get all i ≡ Some a → slice_get all j ≡ Some b → a.status ≡ b.status → a.lines ≡ b.lines
      → i ≡ j
  pub no_other : complete ≡ true → (o : Outcome) → IsPossible program cells o
      → (i : ℕ) × (found : Found) × (slice_get all i ≡ Some found) × IsFoundOf o found

-- ---- their text

-- a number, and what is counted, one or several
abbrev pub number_text : ℕ → List ℕ → List ℕ → List ℕ
number_text n one several = decimal n ++ (if nat_eq n 1 then one else several)

-- how many choices
abbrev pub choices_text : ℕ → List ℕ
choices_text n = number_text n (codes " CHOICE\n") (codes " CHOICES\n")

-- how many states
abbrev pub states_text : ℕ → List ℕ
states_text n = number_text n (codes " STATE\n") (codes " STATES\n")

-- the status and the number of choices, and then the lines
abbrev pub found_text : Found → List ℕ
found_text found = codes "STATUS " ++ decimal found.status ++ codes " BY " ++ choices_text (length found.choices) ++ found.lines

-- how many outcomes were found, of how many states
abbrev pub counts_text : ℕ → ℕ → List ℕ
counts_text outcomes states = number_text outcomes (codes " OUTCOME OF ") (codes " OUTCOMES OF ") ++ states_text states

-- the line that comes next is that of a process that waits
abbrev pub begins_waiting : List ℕ → Bool
begins_waiting lines = starts_with nat_eq lines (codes "WAITING ")

-- one that comes after the end of a line is
abbrev pub waits_later : List ℕ → Bool
waits_later [] = false
waits_later (c ∷ cs) = (nat_eq c 10 && begins_waiting cs) || waits_later cs

-- one of these is; the line of a record begins with a blank
abbrev pub has_waiting_line : List ℕ → Bool
has_waiting_line lines = begins_waiting lines || waits_later lines

-- whether a run may end with processes that wait, all those that live
abbrev pub deadlock_text : List Found → Bool → List ℕ
deadlock_text [] true = codes "NO DEADLOCK IS POSSIBLE\n"
deadlock_text [] false = []
deadlock_text (found ∷ all) complete =
    if has_waiting_line found.lines then codes "DEADLOCK IS POSSIBLE\n" else deadlock_text all complete

-- whether others may be possible
abbrev pub others_text : ℕ → Bool → List ℕ
others_text states true = codes "NO OTHER OUTCOME IS POSSIBLE\n"
others_text states false = codes "CUT SHORT AFTER " ++ states_text states ++ codes "OTHER OUTCOMES MAY BE POSSIBLE\n"

-- the outcomes in the order in which they were found, and what is known of all
abbrev pub explored_text : List Found → ℕ → Bool → List ℕ
explored_text all states complete =
    flat_map found_text all ++ counts_text (length all) states ++ deadlock_text all complete ++ others_text states complete
