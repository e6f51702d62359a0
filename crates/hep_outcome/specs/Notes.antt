-- The notes after a stop: docs/MACHINE.md, "Notes".
use Rattle.std.specs.Prelude.{ℕ, Bool, true, false, List, [], ◌++◌, Option, Some, None}
use Rattle.hep_machine.specs.declared.event.Entry.{Entry}
use Rattle.hep_machine.specs.Words.{is_held, state_after, Units, used_cells}
use Rattle.hep_replay.specs.ChoiceStop.{ChoiceStop}
use Rattle.hep_replay.specs.ChoiceStop.TheVariants.{ArenaFull, Halted, StepLimit}
use Rattle.hep_dump.specs.StopNotes.{all_places_notes, opening_notes, used_notes}
use Rattle.hep_dump.specs.PendingCalls.{all_wants_notes}

-- where COMMON and the frame of the main program don't fit an arena of `cells` cells
abbrev pub opening_notes_when : Bool → Units → ℕ → List ℕ
opening_notes_when false program cells = []
opening_notes_when true program cells = opening_notes program cells

-- after a history in an arena of `cells` cells: where a frame has no gap, the number of taken cells, and the cells of
-- the frames that processes have to make; where the history is full, the place of each process
abbrev pub notes_of_stop : Units → ℕ → List Entry → Option ChoiceStop → List ℕ
notes_of_stop program cells history (Some ArenaFull) =
    used_notes (used_cells program is_held (state_after program history)) cells ++ all_wants_notes program cells history
notes_of_stop program cells history (Some StepLimit) = all_places_notes program history
notes_of_stop program cells history (Some Halted) = []
notes_of_stop program cells history None = []

abbrev pub stop_notes : Bool → Units → ℕ → List Entry → Option ChoiceStop → List ℕ
stop_notes false program cells history stop = []
stop_notes true program cells history stop = notes_of_stop program cells history stop
