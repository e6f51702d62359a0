-- The lines of waiting processes: docs/MACHINE.md, "Lines of processes that wait".
use Rattle.std.specs.Prelude.{ℕ, zero, suc, Bool, true, false, List, [], ◌++◌, codes, length, Option, Some, None, slice_get}
use Rattle.std.specs.Fmt.{decimal}
use Rattle.hep_machine.specs.declared.event.Entry.{Entry}
use Rattle.hep_machine.specs.Words.{Units, state_after, unit_at}
use Rattle.hep_image.specs.Names.{names_in_order}
use Rattle.hep_core.specs.Listed.{Listed}
use Rattle.hep_core.specs.CoreValues.{listed_after}
use Rattle.hep_text.specs.LineDisplay.{words_text}
use Rattle.hep_dump.specs.CommonNames.{own_name}
use Rattle.hep_dump.specs.Names.{name_found}

-- ---- places

-- a position of a common block of this name
abbrev pub position_text : List ℕ → ℕ → List ℕ
position_text block k = codes "/" ++ block ++ codes "/#" ++ decimal k

-- an element by its number, and nothing for a variable that is no array
abbrev pub element_text : ℕ → List ℕ
element_text zero = []
element_text (suc k) = codes "#" ++ decimal (suc k)

-- a variable of this name, or an element of it, of an activation
abbrev pub variable_text : List ℕ → ℕ → ℕ → List ℕ
variable_text name element owner = name ++ element_text element ++ codes " OF " ++ decimal owner

-- COMMON has no activation as its owner
abbrev pub owned_text : List ℕ → ℕ → ℕ → List ℕ
owned_text name element zero = position_text name element
owned_text name element (suc a) = variable_text name element (suc a)

abbrev pub place_text : List (List ℕ) → Listed → List ℕ
place_text names l = owned_text (name_found (slice_get names l.name)) l.element l.owner

abbrev pub state_text : Bool → List ℕ
state_text true = codes "FULL"
state_text false = codes "EMPTY"

-- what the process waits for
abbrev pub wish_text : List (List ℕ) → Listed → List ℕ
wish_text names l = codes " FOR " ++ state_text l.full ++ codes " " ++ place_text names l ++ codes "\n"

-- ---- lines

-- of a waiting process, with these names of units, variables and blocks by number
abbrev pub listed_text : List (List ℕ) → Listed → List ℕ
listed_text names l =
    codes "WAITING " ++ decimal l.process ++ codes " " ++ name_found (slice_get names l.unit) ++ codes " LINE " ++ decimal l.line
    ++ wish_text names l

-- ---- a unit's name for a position of COMMON

-- a position is this in a unit of this name
abbrev pub own_words : List ℕ → List ℕ → List ℕ → List ℕ
own_words place name unit = place ++ codes " is " ++ name ++ codes " in " ++ unit

abbrev pub own_text : List (List ℕ) → Listed → Option (List ℕ) → List ℕ
own_text names l None = []
own_text names l (Some name) = words_text (own_words (place_text names l) name (name_found (slice_get names l.unit)))

-- none for a variable of an activation, whose name is in the line already
abbrev pub own_notes : Units → Listed → ℕ → List ℕ
own_notes program l zero = own_text (names_in_order program) l (own_name (unit_at program l.unit) (name_found (slice_get (names_in_order program) l.name)) l.element)
own_notes program l (suc a) = []

-- the line of a process, and its unit's name for the position that it waits for, if notes are asked for
abbrev pub told_text : Bool → Units → Listed → List ℕ
told_text false program l = listed_text (names_in_order program) l
told_text true program l = listed_text (names_in_order program) l ++ own_notes program l l.owner

-- ---- all of them

-- of one that may wait
abbrev pub process_text : (Listed → List ℕ) → Option Listed → List ℕ
process_text text None = []
process_text text (Some l) = text l

-- of the listed ones of n processes from this number on, after a history
abbrev pub waiting_text : (Listed → List ℕ) → Units → List Entry → ℕ → ℕ → List ℕ
waiting_text text program history p zero = []
waiting_text text program history p (suc n) = process_text text (listed_after program history p) ++ waiting_text text program history (suc p) n

-- of all processes that were made, with notes where they are asked for
abbrev pub all_waiting_text : Bool → Units → List Entry → List ℕ
all_waiting_text long program history = waiting_text (told_text long program) program history 1 (length (state_after program history).processes)
