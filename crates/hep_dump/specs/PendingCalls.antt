-- The units of which processes have to make activations, with the cells of their frames: docs/MACHINE.md, "Notes".
use Rattle.std.specs.Prelude.{ℕ, zero, suc, ◌+◌, Bool, nat_eq, nat_le, nat_lt, if◌then◌else◌, List, [], ◌∷◌, ◌++◌, codes, find, length, Option, Some, None}
use Rattle.std.specs.Fmt.{decimal}
use Rattle.std.specs.List.{flat_map}
use Rattle.hep_source.specs.declared.statement.Form.TheVariants as form
use Rattle.hep_machine.specs.declared.event.Entry.{Entry}
use Rattle.hep_machine.specs.Words.{Form, Name, Statement, Units, frame_cells, function_called, is_external, listed_meaning, spelling, state_after, subroutine_called, unit_at}
use Rattle.hep_conditions.specs.Statements.{NameWithList, names_with_lists}
use Rattle.hep_image.specs.Names.{names_in_order}
use Rattle.hep_core.specs.Whereabouts.{Whereabouts}
use Rattle.hep_core.specs.ProcessPositions.{whereabouts_by}
use Rattle.hep_text.specs.LineDisplay.{words_text}
use Rattle.hep_dump.specs.declared.pending_calls.PendingCall.{PendingCall}
use Rattle.hep_dump.specs.StopNotes.{place_words}

-- ---- the units of which a statement makes activations

abbrev pub a_want : Name → Option ℕ → PendingCall
a_want x u = record { name = x; unit = u }

-- the subroutine that it calls or creates
abbrev pub wants_called : Units → Form → List PendingCall
wants_called program (form.Call p ts) = a_want p.name (subroutine_called program p.name) ∷ []
wants_called program (form.Create p ts) = a_want p.name (subroutine_called program p.name) ∷ []
wants_called program _ = []

-- a function of the program that it refers to
abbrev pub wants_listed : Units → List Statement → NameWithList → List PendingCall
wants_listed program unit r =
    if is_external (listed_meaning unit r.occurrence.name) then a_want r.occurrence.name (function_called program r.occurrence.name) ∷ [] else []

abbrev pub wants_of : Units → List Statement → Statement → List PendingCall
wants_of program unit s = wants_called program s.form ++ flat_map (wants_listed program unit) (names_with_lists s)

abbrev pub is_at : ℕ → Statement → Bool
is_at line s = nat_eq s.line line

abbrev pub wants_of_found : Units → List Statement → Option Statement → List PendingCall
wants_of_found program unit None = []
wants_of_found program unit (Some s) = wants_of program unit s

-- those of the statement of a unit at a line
abbrev pub wants_at : Units → List Statement → ℕ → List PendingCall
wants_at program unit line = wants_of_found program unit (find (is_at line) unit)

-- ---- lines

-- an arena of n cells, if a run may have it
abbrev pub enough_words : ℕ → List ℕ
enough_words n = if nat_le n 16777216 then codes "; --arena " ++ decimal n ++ codes " is enough for them" else []

-- the cells of the frame of a unit of this name, and of the arena
abbrev pub frame_words : List ℕ → ℕ → ℕ → List ℕ
frame_words name frame cells = codes ": " ++ name ++ codes " takes " ++ decimal frame ++ codes " cells" ++ enough_words (cells + frame)

abbrev pub want_text : Units → ℕ → Whereabouts → Name → Option ℕ → List ℕ
want_text program cells w x None = []
want_text program cells w x (Some u) =
    if nat_lt u (length program)
    then words_text (place_words (names_in_order program) w ++ frame_words (spelling x) (frame_cells (unit_at program u)) cells)
    else []

abbrev pub want_notes : Units → ℕ → Whereabouts → PendingCall → List ℕ
want_notes program cells w v = want_text program cells w v.name v.unit

-- ---- of all processes

-- of one that is at a statement
abbrev pub wants_notes : Units → ℕ → Option Whereabouts → List ℕ
wants_notes program cells None = []
wants_notes program cells (Some w) = flat_map (want_notes program cells w) (wants_at program (unit_at program w.unit) w.line)

-- of n processes from this number on
abbrev pub wants_from : Units → ℕ → List Entry → ℕ → ℕ → List ℕ
wants_from program cells history p zero = []
wants_from program cells history p (suc n) =
    wants_notes program cells (whereabouts_by program p (state_after program history)) ++ wants_from program cells history (suc p) n

-- of each living process after a history, in an arena of `cells` cells
abbrev pub all_wants_notes : Units → ℕ → List Entry → List ℕ
all_wants_notes program cells history = wants_from program cells history 1 (length (state_after program history).processes)
