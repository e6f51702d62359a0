-- Serial runs of whole sources: the choices in order, each one entry, and then what is ready, until nothing is.
use Rattle.std.specs.Prelude.{ℕ, zero, suc, pos, Bool, true, false, if◌then◌else◌, codes, List, [], ◌∷◌, map, length, reverse, Option, Some, None, Result, Ok, Err}
use Prim.Native.String.{String}
use Rattle.hep_machine.specs.declared.event.Entry.{Entry}
use Rattle.hep_machine.specs.declared.event.Fault.{Fault}
use Rattle.hep_machine.specs.declared.event.Kind.{Kind}
use Rattle.hep_machine.specs.declared.record.Item.{Item}
use Rattle.hep_machine.specs.declared.record.Item.TheVariants.{Int}
use Rattle.hep_source.specs.declared.value.Value.TheVariants as value
use Rattle.hep_machine.specs.Words.{Layout, layout_after_step, opening_layout, placing_from, layout_of, used_cells, common_cells, is_made, opening, Progress, progress_after_step, progress_after_entry, ready_in, next_of_ready, living_from, state_after_turn, run, run_from, schedule_of, state_after, living, State, Level, Process, Cell, Location, local, StepResult, stepped, waiting, absent, step_result_of, Units, frame_cells, CellView, ProcessView, process_views_from, View, view_of}
use Rattle.hep_expression.specs.Characters.{named}
use Rattle.hep_parse.specs.ReadingProgram.{Refusal}
use Rattle.hep_worked.proofs.Sources.{units_of}

-- ---- entries

-- an entry of so many steps of process p
abbrev pub steps : ℕ → ℕ → Entry
steps p n = record { process = p; steps = n }

-- how a run ends
pub data Ending : Type 0 where
  -- no process lives
  done : Ending
  -- all that live wait
  all_wait : Ending
  -- by a STOP
  halted : Ending
  -- a frame has no gap in the arena
  arena_full : Ending
  -- the history has all the entries that it may have, and a process is ready
  step_limit : Ending
  -- a choice names a process that doesn't live
  no_such_process : Ending
  -- the source isn't read
  refused : (why : Refusal) → Ending

-- what is known after some entries: the state with the processes that wait, the frames, and the history, its last entry first
pub record Course : Type 0 where
  pub progress : Progress
  pub layout : Layout
  pub history : List Entry

abbrev pub last_of : List Entry → ℕ
last_of [] = 0
last_of (e ∷ es) = e.process

-- after a step of p, where its frame has a gap
abbrev pub with_step : Units → Course → ℕ → State → Option Layout → Result Course Ending
with_step program c p s None = Err arena_full
with_step program c p s (Some layout) =
    Ok (record { progress = progress_after_step program c.progress p s; layout = layout; history = steps p 1 ∷ c.history })

-- after a turn of p: one step, or none where it waits
abbrev pub with_turn : Units → ℕ → (State → ℕ → Bool) → Course → ℕ → StepResult → Result Course Ending
with_turn program cells has c p (stepped s) = with_step program c p s (layout_after_step program cells has c.progress.state s c.layout)
with_turn program cells has c p (waiting w) =
    Ok (record { progress = progress_after_entry program c.progress (steps p 0) 0; layout = c.layout; history = steps p 0 ∷ c.history })
with_turn program cells has c p absent = Err no_such_process

abbrev pub turned : Units → ℕ → (State → ℕ → Bool) → Course → ℕ → Result Course Ending
turned program cells has c p = with_turn program cells has c p (step_result_of program p c.progress.state)

-- ---- whole runs

-- the process that comes next, and the choices after it
abbrev pub next_of : Course → List ℕ → Option (ℕ × List ℕ)
next_of c (p ∷ ps) = Some (p, ps)
next_of c [] = by_ready (next_of_ready (last_of c.history) (ready_in c.progress)) where
  by_ready : Option ℕ → Option (ℕ × List ℕ)
  by_ready None = None
  by_ready (Some p) = Some (p, [])

abbrev pub ending_by : List ℕ → Ending
ending_by [] = done
ending_by (p ∷ ps) = all_wait

-- where no process is ready
abbrev pub at_rest : Course → Course × Ending
at_rest c = (c, ending_by (living_from 1 c.progress.state.processes))

abbrev pub if_next : Course → Option (ℕ × List ℕ) → (ℕ × List ℕ → Course × Ending) → Course × Ending
if_next c None more = at_rest c
if_next c (Some x) more = more x

abbrev pub if_turned : Course → Result Course Ending → (Course → Course × Ending) → Course × Ending
if_turned c (Err e) more = (c, e)
if_turned c (Ok d) more = more d

-- where the history is full, and what comes next lives or doesn't
abbrev pub cut_short : Option (Level × Process) → Ending
cut_short None = no_such_process
cut_short (Some top) = step_limit

-- with at most n entries more
unfoldable pub course_from : Units → ℕ → (State → ℕ → Bool) → ℕ → List ℕ → Course → Course × Ending
course_from program cells has zero choices c = if c.progress.state.halted then (c, halted) else if_next c (next_of c choices) (λ x. (c, cut_short (living c.progress.state x.0)))
course_from program cells has (suc n) choices c =
    if c.progress.state.halted then (c, halted)
    else if_next c (next_of c choices) (λ x. if_turned c (turned program cells has c x.0) (λ d. course_from program cells has n x.1 d))

-- the state before the first step, with its frames or without
abbrev pub first_course : Units → Layout → Course
first_course program layout = record { progress = record { state = opening program; listed = [] }; layout = layout; history = [] }

abbrev pub course_in : Units → ℕ → (State → ℕ → Bool) → ℕ → List ℕ → Option Layout → Course × Ending
course_in program cells has limit choices None = (first_course program [], arena_full)
course_in program cells has limit choices (Some layout) = course_from program cells has limit choices (first_course program layout)

unfoldable pub course : Units → ℕ → (State → ℕ → Bool) → ℕ → List ℕ → Course × Ending
unfolding course_from opening step_result_of
course program cells has limit choices = course_in program cells has limit choices (opening_layout program cells)

-- ---- what a run leaves

pub record Report : Type 0 where
  pub records : List (List Item)
  pub faults : List Fault
  -- each process that lives, with the unit and the line that it is at, and what it waits for
  pub processes : List ProcessView
  -- how many entries the history has
  pub entries : ℕ
  -- the cells of COMMON and of all frames
  pub used : ℕ
  pub ending : Ending

-- by the state that the source machine has after the history
abbrev pub report_at : Units → (State → ℕ → Bool) → List Entry → Ending → State → Report
report_at program has entries_made ending s = record {
  records = s.records;
  faults = s.faults;
  processes = process_views_from program s 1 s.processes;
  entries = length entries_made;
  used = used_cells program has s;
  ending = ending;
}

abbrev pub report_after : Units → (State → ℕ → Bool) → List Entry → Ending → Report
unfolding state_after run run_from schedule_of opening step_result_of
report_after program has entries_made ending = report_at program has entries_made ending (state_after program entries_made)

abbrev pub report_of : Result Units Refusal → ℕ → (State → ℕ → Bool) → ℕ → List ℕ → Report
unfolding course
report_of (Err e) cells has limit choices = record { records = []; faults = []; processes = []; entries = 0; used = 0; ending = refused e }
report_of (Ok program) cells has limit choices =
    let x = course program cells has limit choices in
    report_after program has (reverse x.0.history) x.1

-- The report of the run of a source in an arena of so many cells and with at most so many entries, where those activations
-- have frames.
unfoldable pub report : List String → ℕ → (State → ℕ → Bool) → ℕ → List ℕ → Report
unfolding units_of course state_after run run_from schedule_of opening step_result_of
report lines cells has limit choices = report_of (units_of lines) cells has limit choices

-- the same for the arena and the limit that a run has by itself, without choices
unfoldable pub runs : List String → Report
unfolding report
runs lines = report lines 65536 is_made 10000000 []

-- a run to its end without faults, with these records, so many entries, and so many cells in use
abbrev pub ended : List (List Item) → ℕ → ℕ → Report
ended records entries used = record { records = records; faults = []; processes = []; entries = entries; used = used; ending = done }

-- a run that ends after one fault
abbrev pub faulted : List (List Item) → Fault → ℕ → ℕ → Report
faulted records fault entries used = record { records = records; faults = fault ∷ []; processes = []; entries = entries; used = used; ending = done }

-- a run without faults that comes to no end, and where its processes are
abbrev pub ended_by : Ending → List (List Item) → List ProcessView → ℕ → ℕ → Report
ended_by ending records processes entries used = record { records = records; faults = []; processes = processes; entries = entries; used = used; ending = ending }

-- no run, since the source is refused at a line
abbrev pub rejected : ℕ → ℕ → List ℕ → Report
rejected number line detail = record { records = []; faults = []; processes = []; entries = 0; used = 0; ending = refused (number, line, detail) }

-- ---- the history, the cells in use, and where the frames are

abbrev pub history_of : Result Units Refusal → ℕ → (State → ℕ → Bool) → ℕ → List ℕ → List Entry
unfolding course
history_of (Err e) cells has limit choices = []
history_of (Ok program) cells has limit choices = reverse (course program cells has limit choices).0.history

-- the history of the run, its first entry first
unfoldable pub history : List String → ℕ → (State → ℕ → Bool) → ℕ → List ℕ → List Entry
unfolding units_of course
history lines cells has limit choices = history_of (units_of lines) cells has limit choices

abbrev pub view_after : Units → (State → ℕ → Bool) → List Entry → View
unfolding state_after run run_from schedule_of opening step_result_of
view_after program has entries_made = view_of program has (state_after program entries_made)

abbrev pub view_in : Result Units Refusal → ℕ → (State → ℕ → Bool) → ℕ → List ℕ → Option View
unfolding course
view_in (Err e) cells has limit choices = None
view_in (Ok program) cells has limit choices = Some (view_after program has (reverse (course program cells has limit choices).0.history))

-- what is seen at the end of the run
unfoldable pub view : List String → ℕ → (State → ℕ → Bool) → ℕ → List ℕ → Option View
unfolding units_of course state_after run run_from schedule_of opening step_result_of
view lines cells has limit choices = view_in (units_of lines) cells has limit choices

abbrev pub used_after : Units → (State → ℕ → Bool) → State → List ℕ → List ℕ
unfolding step_result_of
used_after program has s [] = used_cells program has s ∷ []
used_after program has s (p ∷ ps) = used_cells program has s ∷ used_after program has (state_after_turn program p s) ps

abbrev pub used_in : Result Units Refusal → (State → ℕ → Bool) → List ℕ → List ℕ
unfolding opening step_result_of
used_in (Err e) has choices = []
used_in (Ok program) has choices = used_after program has (opening program) choices

-- the cells that are in use at first and after each choice
unfoldable pub used_along : List String → (State → ℕ → Bool) → List ℕ → List ℕ
unfolding units_of opening step_result_of
used_along lines has choices = used_in (units_of lines) has choices

abbrev pub layout_in : Result Units Refusal → ℕ → (State → ℕ → Bool) → List ℕ → Option Layout
unfolding placing_from opening step_result_of
layout_in (Err e) cells has choices = None
layout_in (Ok program) cells has choices = layout_of program cells has choices

-- where the frames are in an arena of so many cells after these choices, none once a frame had no gap
unfoldable pub layout_after : List String → ℕ → (State → ℕ → Bool) → List ℕ → Option Layout
unfolding units_of placing_from opening step_result_of
layout_after lines cells has choices = layout_in (units_of lines) cells has choices

abbrev pub frames_in : Result Units Refusal → List ℕ × ℕ
frames_in (Err e) = ([], 0)
frames_in (Ok program) = (map frame_cells program, common_cells program)

-- the cells of a frame of each unit, and those of COMMON
unfoldable pub frames : List String → List ℕ × ℕ
unfolding units_of
frames lines = frames_in (units_of lines)

-- ---- what is expected

abbrev pub int : ℕ → Item
int n = Int (pos n)

-- a record of one number, or of some
abbrev pub one : ℕ → List Item
one n = int n ∷ []

abbrev pub numbers : List ℕ → List Item
numbers ns = map int ns

abbrev pub fault : ℕ → ℕ → ℕ → Kind → Fault
fault p unit line k = record { process = p; unit = unit; line = line; kind = k }

-- a process at a line of a unit, which waits for nothing, or until a storage unit is full
abbrev pub stands : ℕ → ℕ → ℕ → ProcessView
stands p unit line = record { process = p; unit = unit; line = line; wanted = None }

abbrev pub waits_for_full : ℕ → ℕ → ℕ → Location → ProcessView
waits_for_full p unit line at = record { process = p; unit = unit; line = line; wanted = Some (record { at = at; full = true }) }

-- an element of an asynchronous variable of an activation
abbrev pub asynchronous : ℕ → String → ℕ → Location
asynchronous a letters element = local a (named true (codes letters)) element

-- the same of a plain variable
abbrev pub plain : ℕ → String → ℕ → Location
plain a letters element = local a (named false (codes letters)) element

-- a storage unit with an integer, or without a value, that is full or not
abbrev pub cell : ℕ → Bool → Cell
cell n full = record { value = Some (value.Int (pos n)); full = full }

abbrev pub unset_cell : Bool → Cell
unset_cell full = record { value = None; full = full }

-- this location with this cell
abbrev pub holds : Location → Cell → CellView
holds at c = record { at = at; cell = c }

-- each entry as its process and its steps
abbrev pub entries_of : List (ℕ × ℕ) → List Entry
entries_of xs = map (λ (x : ℕ × ℕ). steps x.0 x.1) xs
