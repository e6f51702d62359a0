-- The notes after a stop: docs/MACHINE.md, "Notes".
use Rattle.std.specs.Prelude.{ℕ, zero, suc, ◌+◌, nat_le, if◌then◌else◌, List, [], ◌++◌, codes, length, Option, Some, None, slice_get}
use Rattle.std.specs.Fmt.{decimal}
use Rattle.hep_machine.specs.declared.event.Entry.{Entry}
use Rattle.hep_machine.specs.Words.{Units, common_cells, frame_cells, main_among, state_after, unit_at}
use Rattle.hep_image.specs.Names.{names_in_order}
use Rattle.hep_core.specs.Whereabouts.{Whereabouts}
use Rattle.hep_core.specs.ProcessPositions.{whereabouts_by}
use Rattle.hep_text.specs.LineDisplay.{words_text}
use Rattle.hep_dump.specs.Names.{name_found}

-- ---- the arena is full at the opening

-- an arena of n cells, if a run may have it
abbrev pub arena_words : ℕ → List ℕ
arena_words n = if nat_le n 16777216 then codes "--arena " ++ decimal n ++ codes " is enough to begin" else codes "no arena has as many"

-- a main program of this name, the cells of its frame, those of COMMON, and those of the arena
abbrev pub opening_words : List ℕ → ℕ → ℕ → ℕ → List ℕ
opening_words name frame common cells =
    name ++ codes " takes " ++ decimal frame ++ codes " cells and COMMON " ++ decimal common ++ codes ", but there are " ++ decimal cells
    ++ codes ": " ++ arena_words (frame + common)

-- the main program has this number
abbrev pub opening_text : Units → ℕ → Option ℕ → List ℕ
opening_text program cells None = []
opening_text program cells (Some u) =
    words_text (opening_words (name_found (slice_get (names_in_order program) u)) (frame_cells (unit_at program u)) (common_cells program) cells)

abbrev pub opening_notes : Units → ℕ → List ℕ
opening_notes program cells = opening_text program cells (main_among program)

-- ---- the arena is full later

-- the number of taken cells, and of all cells
abbrev pub used_notes : ℕ → ℕ → List ℕ
used_notes used cells =
    words_text (decimal used ++ codes " of " ++ decimal cells ++ codes " cells are in use; hepf list tells what the frame of each unit takes")

-- ---- the history is full

-- the place of a process
abbrev pub place_words : List (List ℕ) → Whereabouts → List ℕ
place_words names w = codes "process " ++ decimal w.process ++ codes " is at " ++ name_found (slice_get names w.unit) ++ codes " LINE " ++ decimal w.line

abbrev pub place_notes : List (List ℕ) → Option Whereabouts → List ℕ
place_notes names None = []
place_notes names (Some w) = words_text (place_words names w)

-- the living ones of n processes from this number on, after a history
abbrev pub places_notes : Units → List Entry → ℕ → ℕ → List ℕ
places_notes program history p zero = []
places_notes program history p (suc n) =
    place_notes (names_in_order program) (whereabouts_by program p (state_after program history)) ++ places_notes program history (suc p) n

abbrev pub all_places_notes : Units → List Entry → List ℕ
all_places_notes program history = places_notes program history 1 (length (state_after program history).processes)
