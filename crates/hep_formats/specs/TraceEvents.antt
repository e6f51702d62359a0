-- The lines of a trace as events of the Trace Event Format: docs/RUNS.md, "A timeline".
use Rattle.std.specs.Prelude.{ℕ, zero, suc, ◌+◌, ◌-◌, Bool, true, false, not, ◌&&◌, ◌||◌, nat_eq, nat_lt, if◌then◌else◌}
use Rattle.std.specs.Prelude.{List, [], ◌∷◌, ◌++◌, codes, length, map, replicate, slice_get, slice_set, Option, Some, None}
use Rattle.std.specs.Fmt.{decimal}
use Rattle.std.specs.Str.{bytes_eq}
use Rattle.hep_formats.specs.Strings.{json_string}
use Rattle.hep_text.specs.Line as text
use Rattle.hep_formats.specs.TraceLines.{source_line_of, unit_of, waits}
use Rattle.hep_formats.specs.LineWords.{after_blank}
use Rattle.hep_formats.specs.TurnMarks.{created_by, deed_of, first_word, higher, lower, mark_of, process_of, processes_in}
use Rattle.hep_formats.specs.declared.trace_event.ThreadState.{ThreadState}

-- ---- events: a line each, after the one before

-- its phase, and the process as its thread
abbrev pub phase_text : List ℕ → ℕ → List ℕ
phase_text phase p = codes ",\n{\"ph\":\"" ++ phase ++ codes "\",\"pid\":1,\"tid\":" ++ decimal p

-- and its time, in microseconds: each line of the trace takes one
abbrev pub timed_text : List ℕ → ℕ → ℕ → List ℕ
timed_text phase p time = phase_text phase p ++ codes ",\"ts\":" ++ decimal time

abbrev pub named : List ℕ → List ℕ → List ℕ
named key name = key ++ json_string name

-- an activation of this unit begins
abbrev pub begin_event : ℕ → ℕ → List ℕ → List ℕ
begin_event p time name = timed_text (codes "B") p time ++ named (codes ",\"name\":") name ++ codes "}"

-- what began last ends
abbrev pub end_event : ℕ → ℕ → List ℕ
end_event p time = timed_text (codes "E") p time ++ codes "}"

-- so many end
abbrev pub ends : ℕ → ℕ → ℕ → List ℕ
ends p time zero = []
ends p time (suc n) = end_event p time ++ ends p time n

-- the entry, and the unit in which the process was
unfoldable pub unit_args : List ℕ → List ℕ
unit_args line = codes ",\"args\":{\"entry\":" ++ first_word line ++ named (codes ",\"unit\":") (unit_of line)

-- and the line
abbrev pub args_text : List ℕ → List ℕ
args_text line = unit_args line ++ codes ",\"line\":" ++ source_line_of line ++ codes "}}"

-- a step takes one microsecond, and waiting begins
abbrev pub turn_front : ℕ → ℕ → Bool → List ℕ
turn_front p time true = timed_text (codes "B") p time
turn_front p time false = timed_text (codes "X") p time ++ codes ",\"dur\":1"

-- what a turn did
abbrev pub turn_event : ℕ → ℕ → List ℕ → List ℕ
turn_event p time line =
    turn_front p time (waits line) ++ named (codes ",\"cat\":") (first_word (deed_of line))
    ++ named (codes ",\"name\":") (deed_of line) ++ args_text line

-- ---- activations

-- the unit that a turn calls, or nothing
abbrev pub called_by : List ℕ → List ℕ
called_by line = if bytes_eq (first_word (deed_of line)) (codes "calls") then first_word (after_blank (deed_of line)) else []

-- how many of so many activations end with a turn: all with a fault; one with a return, an end, and a RESUME by which the caller goes on
abbrev pub ended_by_verb : List ℕ → ℕ → ℕ → ℕ
ended_by_verb verb created activations =
    if bytes_eq verb (codes "FAULT") then activations
    else (if bytes_eq verb (codes "returns") || bytes_eq verb (codes "ends") then 1
    else (if bytes_eq verb (codes "resumes") && not (nat_eq created 0) then 1 else 0))

abbrev pub ended_by : List ℕ → ℕ → ℕ
ended_by line activations = ended_by_verb (first_word (deed_of line)) (created_by (deed_of line)) activations

-- no turn was taken yet
abbrev pub nothing_begun : ThreadState
nothing_begun = record { begun = false; activations = 0; waits = false }

-- the activation whose turn it is may have begun before the first line; no more are open than an arena has cells
abbrev pub activations_in : ThreadState → ℕ
activations_in state = lower (higher state.activations 1) 16777216

abbrev pub one_if : List ℕ → ℕ
one_if name = if nat_eq (length name) 0 then 0 else 1

unfoldable pub state_after : ThreadState → List ℕ → ThreadState
state_after state line = record {
  begun = true;
  activations = (activations_in state + one_if (called_by line)) - ended_by line (activations_in state);
  waits = waits line;
}

-- ---- turns

-- the name of a thread is the unit of its first turn
abbrev pub thread_name : ℕ → List ℕ → List ℕ
thread_name p unit = phase_text (codes "M") p ++ named (codes ",\"name\":\"thread_name\",\"args\":{\"name\":") unit ++ codes "}}"

-- before the first turn
abbrev pub first_name : ℕ → ThreadState → List ℕ → List ℕ
first_name p state line = if state.begun then [] else thread_name p (unit_of line)

-- the process doesn't wait any more
abbrev pub wait_end : ℕ → ℕ → ThreadState → List ℕ
wait_end p time state = if state.waits then end_event p time else []

-- the activation whose turn it is begins, where none has begun
abbrev pub first_begin : ℕ → ℕ → ThreadState → List ℕ → List ℕ
first_begin p time state line = if nat_eq state.activations 0 then begin_event p time (unit_of line) else []

-- what ended before a turn, and what begins with it
abbrev pub front_events : ℕ → ℕ → ThreadState → List ℕ → List ℕ
front_events p time state line = first_name p state line ++ wait_end p time state ++ first_begin p time state line

abbrev pub change_events : ℕ → ℕ → ℕ → List ℕ → List ℕ
change_events p time activations line =
    (if nat_eq (length (called_by line)) 0 then [] else begin_event p time (called_by line)) ++ ends p time (ended_by line activations)

unfoldable pub turn_events : ℕ → ℕ → ThreadState → List ℕ → List ℕ
turn_events p time state line =
    front_events p time state line ++ turn_event p time line ++ change_events p (time + 1) (activations_in state) line

-- ---- all processes, from the first one on

abbrev pub state_by : Option ThreadState → ThreadState
state_by None = nothing_begun
state_by (Some state) = state

unfoldable pub state_of : List ThreadState → ℕ → ThreadState
state_of states p = state_by (slice_get states (p - 1))

unfoldable pub with_state : List ThreadState → ℕ → ThreadState → List ThreadState
with_state states p state = if nat_lt (p - 1) (length states) then slice_set states (p - 1) state else states

abbrev pub one_if_waits : Bool → ℕ
one_if_waits true = 1
one_if_waits false = 0

-- what is open ends, of processes from this number on
abbrev pub all_ends : ℕ → ℕ → List ThreadState → List ℕ
all_ends p time [] = []
all_ends p time (state ∷ states) = ends p time state.activations ++ ends p time (one_if_waits state.waits) ++ all_ends (p + 1) time states

-- of lines from this time on, with the states of the processes before them
abbrev pub events_from : ℕ → List ThreadState → List (List ℕ) → List ℕ
events_from time states [] = all_ends 1 time states
events_from time states (line ∷ lines) =
    turn_events (process_of line) time (state_of states (process_of line)) line
    ++ events_from (time + 1) (with_state states (process_of line) (state_after (state_of states (process_of line)) line)) lines

abbrev pub events_by_lines : List (List ℕ) → List ℕ
events_by_lines lines = events_from 0 (replicate (processes_in (map mark_of lines)) nothing_begun) lines

-- the events of a trace
abbrev pub events_of : List ℕ → List ℕ
events_of trace =
    codes "{\"traceEvents\":[\n{\"ph\":\"M\",\"pid\":1,\"name\":\"process_name\",\"args\":{\"name\":\"hepf\"}}"
    ++ events_by_lines (text.lines trace) ++ codes "\n],\"displayTimeUnit\":\"ns\"}\n"
