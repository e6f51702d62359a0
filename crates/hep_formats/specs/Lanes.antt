-- Lanes of processes, a row a turn: docs/RUNS.md, "Lanes".
use Rattle.std.specs.Prelude.{ℕ, ◌+◌, ◌-◌, ◌/◌, Bool, true, false, ◌||◌, nat_eq, nat_le, if◌then◌else◌}
use Rattle.std.specs.Prelude.{List, [], ◌∷◌, ◌++◌, codes, length, map, take}
use Rattle.std.specs.Fmt.{decimal}
use Rattle.std.specs.List.{flat_map, list_any, range_with_len}
use Rattle.hep_text.specs.Line as text
use Rattle.hep_formats.specs.LaneRows.{cut, row_text}
use Rattle.hep_formats.specs.ShortActions.{short_action}
use Rattle.hep_formats.specs.TraceLines.{action_of, is_listed, last_line_of, line_of, source_line_of, unit_of, woken_by}
use Rattle.hep_formats.specs.LineWords.{after_blank}
use Rattle.hep_formats.specs.TurnMarks.{first_word, higher, lower, mark_of, processes_in}
use Rattle.hep_formats.specs.declared.lane.Lane.{Lane}
use Rattle.hep_formats.specs.declared.lane.LaneLook.{LaneLook}
use Rattle.hep_formats.specs.declared.lane.LaneLook.TheVariants.{Ended, Lives, Unborn, Waits}
use Rattle.hep_formats.specs.declared.lane.LaneTurn.{LaneTurn}
use Rattle.hep_formats.specs.declared.lane_row.LaneFrame.{LaneFrame}
use Rattle.hep_formats.specs.declared.turn_mark.TurnKind.{TurnKind}
use Rattle.hep_formats.specs.declared.turn_mark.TurnKind.TheVariants.{End, Fault, Wait}
use Rattle.hep_formats.specs.declared.turn_mark.TurnMark.{TurnMark}

-- ---- before the first turn

abbrev pub creates : ℕ → TurnMark → Bool
creates p mark = nat_eq mark.created p

abbrev pub is_turn_of : ℕ → TurnMark → Bool
is_turn_of p mark = nat_eq mark.process p

-- the lane of process p, if one of the turns is of it or creates it: one that isn't created lives already
abbrev pub lane_at : List TurnMark → ℕ → List Lane
lane_at marks p =
    if list_any (creates p) marks then record { process = p; look = Unborn } ∷ []
    else (if list_any (is_turn_of p) marks then record { process = p; look = Lives } ∷ [] else [])

abbrev pub all_lanes : List TurnMark → List Lane
all_lanes marks = flat_map (lane_at marks) (range_with_len 1 (processes_in marks))

-- no more than these
abbrev pub lanes_before : ℕ → List TurnMark → List Lane
lanes_before most marks = take most (all_lanes marks)

-- ---- a turn

-- its mark, and the processes that it woke
pub record Turn : Type 0 where
  pub mark : TurnMark
  pub woken : List ℕ

abbrev pub turn_shown : LaneTurn → Turn
turn_shown turn = record { mark = turn.mark; woken = turn.woken.now }

abbrev pub turn_of : List ℕ → Turn
turn_of line = record { mark = mark_of line; woken = woken_by line }

abbrev pub own_look : TurnKind → LaneLook
own_look Wait = Waits
own_look End = Ended
own_look Fault = Ended
own_look _ = Lives

-- what a lane shows after a turn, where its process takes none
abbrev pub look_after : Turn → Lane → LaneLook
look_after turn lane =
    if nat_eq turn.mark.process lane.process then own_look turn.mark.kind
    else (if nat_eq turn.mark.created lane.process || is_listed lane.process turn.woken then Lives else lane.look)

abbrev pub lane_after : Turn → Lane → Lane
lane_after turn lane = record { process = lane.process; look = look_after turn lane }

-- ---- the row of a turn

abbrev pub sign_of : LaneLook → List ℕ
sign_of Unborn = []
sign_of Lives = codes "|"
sign_of Waits = codes ":"
sign_of Ended = []

-- what a lane shows of a turn, whose process shows its own text
abbrev pub cell_of : Turn → List ℕ → Lane → List ℕ
cell_of turn own lane =
    if nat_eq turn.mark.process lane.process then own
    else (if nat_eq turn.mark.created lane.process then codes "*"
    else (if is_listed lane.process turn.woken then codes "<" else sign_of lane.look))

abbrev pub is_lane_of : ℕ → Lane → Bool
is_lane_of p lane = nat_eq lane.process p

abbrev pub is_waiting : LaneLook → Bool
is_waiting Unborn = false
is_waiting Lives = false
is_waiting Waits = true
is_waiting Ended = false

-- the line of the source and the action
abbrev pub own_text : List ℕ → List ℕ
own_text line = source_line_of line ++ 32 ∷ short_action (action_of line)

-- where not all processes have lanes that are shown
abbrev pub beyond : Bool → List (List ℕ)
beyond true = []
beyond false = codes "~" ∷ []

-- what the lanes that are shown have of a turn, whose process shows its own text
unfoldable pub shown_cells : Turn → List ℕ → List Lane → List (List ℕ)
shown_cells turn own shown = map (cell_of turn own) shown ++ beyond (list_any (is_lane_of turn.mark.process) shown)

abbrev pub turn_cells : ℕ → List Lane → List ℕ → List (List ℕ)
turn_cells width shown line = shown_cells (turn_of line) (cut width (own_text line)) shown

abbrev pub turn_row : LaneFrame → List Lane → List ℕ → List ℕ
turn_row frame lanes line = row_text frame.width (first_word line) (turn_cells frame.width (take frame.few lanes) line)

-- ---- the row of names

-- the number of a process, and the unit of its first turn
abbrev pub name_text : ℕ → List ℕ → List ℕ
name_text p unit = if nat_eq (length unit) 0 then decimal p else decimal p ++ 32 ∷ unit

abbrev pub head_cell : ℕ → List (List ℕ) → Lane → List ℕ
head_cell width lines lane = cut width (name_text lane.process (unit_of (line_of lane.process lines)))

abbrev pub head_cells : LaneFrame → List Lane → List (List ℕ) → List (List ℕ)
head_cells frame lanes lines = map (head_cell frame.width lines) (take frame.few lanes) ++ beyond (nat_le (length lanes) frame.few)

abbrev pub head_row : LaneFrame → List Lane → List (List ℕ) → List ℕ
head_row frame lanes lines = row_text frame.width (codes "entry") (head_cells frame lanes lines)

-- ---- all rows

-- at the end a row for each process with a lane that waits
abbrev pub wait_row : List (List ℕ) → Lane → List ℕ
wait_row lines lane =
    if is_waiting lane.look then codes "       " ++ after_blank (last_line_of lane.process lines) ++ codes "\n" else []

-- of some lines of all, with the lanes before them
abbrev pub rows_text : LaneFrame → List (List ℕ) → List Lane → List (List ℕ) → List ℕ
rows_text frame all lanes [] = flat_map (wait_row all) (take frame.few lanes)
rows_text frame all lanes (line ∷ lines) = turn_row frame lanes line ++ rows_text frame all (map (lane_after (turn_of line)) lanes) lines

-- ---- the frame

-- how many lanes fit in this number of columns
abbrev pub lanes_within : ℕ → ℕ
lanes_within columns = (columns - 8) / 9

-- the width of each of n lanes, from 9 to 24
abbrev pub lane_width : ℕ → ℕ → ℕ
lane_width columns n = higher 9 (lower 24 ((columns - 8) / higher 1 n))

-- of n lanes
abbrev pub frame_of : ℕ → ℕ → LaneFrame
frame_of columns n = record { few = lanes_within columns; width = lane_width columns (lower n (lanes_within columns)) }

abbrev pub lanes_by : LaneFrame → List Lane → List (List ℕ) → List ℕ
lanes_by frame lanes lines = head_row frame lanes lines ++ rows_text frame lines lanes lines

abbrev pub lanes_with : ℕ → List Lane → List (List ℕ) → List ℕ
lanes_with columns lanes lines = lanes_by (frame_of columns (length lanes)) lanes lines

-- the lanes of a trace, in rows of so many columns; one lane more than fit says that there are others
abbrev pub lanes_of : ℕ → List ℕ → List ℕ
lanes_of columns trace =
    lanes_with columns (lanes_before (lanes_within columns + 1) (map mark_of (text.lines trace))) (text.lines trace)
