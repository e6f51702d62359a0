-- The lines of the differences: docs/RUNS.md, "What differs".
use Rattle.std.specs.Prelude.{ℕ, zero, suc, Bool, true, false, if◌then◌else◌, List, [], ◌∷◌, ◌++◌, codes, Option, Some, None, slice_get}
use Rattle.std.specs.Fmt.{decimal}
use Rattle.std.specs.List.{flat_map}
use Rattle.std.specs.Option.{option_map_or, unwrap_or}
use Rattle.std.specs.Str.{bytes_eq}
use Rattle.hep_dump.specs.Names.{name_found}
use Rattle.hep_dump.specs.Waiting.{listed_text, position_text, variable_text}
use Rattle.hep_image.specs.Names.{names_in_order}
use Rattle.hep_machine.specs.Words.{Units, unit_at}
use Rattle.hep_dump.specs.CommonNames.{own_name}
use Rattle.hep_state_text.specs.Values.{value_text}
use Rattle.hep_text.specs.Line.{lines}
use Rattle.hep_views.specs.declared.listed.Listed.{Listed}
use Rattle.hep_views.specs.declared.place.Place.{Place}
use Rattle.hep_views.specs.declared.whereabouts.Whereabouts.{Whereabouts}
use Rattle.hep_diff.specs.declared.process_step.ProcessStep.{ProcessStep}
use Rattle.hep_diff.specs.declared.process_step.CellReading.{CellReading}

-- the number of equal entries, and the numbers of entries of the first and of the second history
abbrev pub front_text : ℕ → ℕ → ℕ → List ℕ
front_text same first second =
    codes "THE FIRST " ++ decimal same ++ codes " ENTRIES ARE THE SAME, OF " ++ decimal first ++ codes " AND " ++ decimal second ++ codes "\n"

-- the mark before a line of the first history, and that of the second one
abbrev pub first_mark : List ℕ
first_mark = codes "< "

abbrev pub second_mark : List ℕ
second_mark = codes "> "

-- ---- processes

abbrev pub process_words : ℕ → List ℕ
process_words p = codes "PROCESS " ++ decimal p ++ codes " DIFFERS IN STEP "

-- steps are counted from 1, after the equal entries
abbrev pub process_head : ℕ → ℕ → List ℕ
process_head p step = process_words p ++ (decimal step ++ codes " BEHIND THEM\n")

-- the place of a step, in a unit of this name
abbrev pub where_text : List ℕ → ℕ → List ℕ
where_text unit line = unit ++ codes " LINE " ++ decimal line

module _ (program : Units) where
  abbrev pub name_of : ℕ → List ℕ
  name_of n = name_found (slice_get (names_in_order program) n)

  -- unit u's name for a position of COMMON, or the name by the block where it has none
  abbrev pub common_text : ℕ → Place → List ℕ
  common_text u place =
      unwrap_or (own_name (unit_at program u) (name_of place.name) place.element) (position_text (name_of place.name) place.element)

  -- a place with its owner, of which COMMON has none
  abbrev pub owned_text : ℕ → Place → ℕ → List ℕ
  owned_text u place zero = common_text u place
  owned_text u place (suc a) = variable_text (name_of place.name) place.element (suc a)

  -- what a step of unit u has read, if it has read something that exists
  abbrev pub found_text : ℕ → Option CellReading → List ℕ
  found_text u None = []
  found_text u (Some f) = codes " READS " ++ owned_text u f.place f.place.owner ++ codes " = " ++ value_text f.value

  abbrev pub deed_text : ProcessStep → List ℕ
  deed_text d =
      codes "ENTRY " ++ decimal d.entry ++ codes " " ++ where_text (name_of d.unit) d.line ++ found_text d.unit d.found ++ codes "\n"

  -- what has become of a process that has no further step: it was found waiting, and still waits; or it lives; or it
  -- was made; or it was never made
  abbrev pub rest_text : Option Listed → Option Whereabouts → Bool → List ℕ
  rest_text (Some l) w made = listed_text (names_in_order program) l
  rest_text None (Some w) made = codes "AT " ++ where_text (name_of w.unit) w.line ++ codes "\n"
  rest_text None None true = codes "HAS ENDED\n"
  rest_text None None false = codes "WAS NOT MADE\n"

-- ---- lines that are written

abbrev pub marked : List ℕ → List ℕ → List ℕ
marked mark line = mark ++ line ++ codes "\n"

-- nothing for a side that has no such line
abbrev pub side_text : List ℕ → Option (List ℕ) → List ℕ
side_text mark line = option_map_or (marked mark) line []

abbrev pub first_line : List (List ℕ) → Option (List ℕ)
first_line [] = None
first_line (l ∷ ls) = Some l

-- records are counted from 1
abbrev pub record_text : ℕ → Option (List ℕ) → Option (List ℕ) → List ℕ
record_text k a b = codes "RECORD " ++ decimal k ++ codes " DIFFERS\n" ++ side_text first_mark a ++ side_text second_mark b

-- the first lines that differ; the lines given are counted from k
abbrev pub records_text : ℕ → List (List ℕ) → List (List ℕ) → List ℕ
records_text k [] [] = []
records_text k (x ∷ xs) [] = record_text k (Some x) None
records_text k [] (y ∷ ys) = record_text k None (Some y)
records_text k (x ∷ xs) (y ∷ ys) = if bytes_eq x y then records_text (suc k) xs ys else record_text k (Some x) (Some y)

-- all lines of a text
abbrev pub all_marked : List ℕ → List ℕ → List ℕ
all_marked mark text = flat_map (marked mark) (lines text)

abbrev pub both_text : List ℕ → List ℕ → List ℕ
both_text first second = codes "ENDS DIFFER\n" ++ all_marked first_mark first ++ all_marked second_mark second

-- the two ends of the runs, if they differ
abbrev pub ends_text : List ℕ → List ℕ → List ℕ
ends_text first second = if bytes_eq first second then [] else both_text first second

-- ---- all of it

abbrev pub or_nothing : List ℕ → List ℕ
or_nothing [] = codes "NOTHING DIFFERS\n"
or_nothing (c ∷ cs) = c ∷ cs
