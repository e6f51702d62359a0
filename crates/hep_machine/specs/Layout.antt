-- Frames and the arena: docs/MACHINE.md, "Layout".
use Rattle.std.specs.Prelude.{ℕ, zero, suc, ◌+◌, max, Bool, true, nat_le, nat_lt, if◌then◌else◌, List, [], ◌∷◌, map, length, Option, Some, None}
use Rattle.std.specs.Option.{option_map, option_map_or}
use Rattle.std.specs.List.{flat_map, filter}
use Rattle.hep_machine.specs.Constants.{cells_of_all}
use Rattle.hep_machine.specs.Declarations.{BlockName, names_in_block, blocks_of}
use Rattle.hep_machine.specs.Opening.{opening}
use Rattle.hep_machine.specs.Run.{state_after_turn}
use Rattle.hep_machine.specs.State.{State, Level, Process}
use Rattle.hep_source.specs.Units.{Units, unit_at}
use Rattle.hep_machine.specs.Variables.{frame_cells}
use Rattle.hep_machine.specs.Processes.{unit_of, parent_of, is_number_among}

-- ---- COMMON: each block at its greatest length, in order of first appearance (X3.9-1978, 8.3.3)

abbrev pub block_cells : Units → BlockName → ℕ
block_cells [] b = 0
block_cells (unit ∷ units) b = max (cells_of_all unit (names_in_block unit b)) (block_cells units b)

abbrev pub cells_of_blocks : Units → List BlockName → ℕ
cells_of_blocks program [] = 0
cells_of_blocks program (b ∷ bs) = block_cells program b + cells_of_blocks program bs

abbrev pub common_cells : Units → ℕ
common_cells program = cells_of_blocks program (blocks_of program)

-- ---- held activations: "Layout"

abbrev pub activations_on : Process → List ℕ
activations_on stack = map (λ (l : Level). l.activation) stack

abbrev pub with_number : ℕ → List ℕ → List ℕ
with_number a held = if is_number_among a held then held else a ∷ held

-- the parent of an activation, unless that is among these already
abbrev pub new_parent : State → ℕ → List ℕ → Option ℕ
new_parent s a held = if is_number_among a held then None else parent_of s a

-- these activations with another one, its parent, the parent's parent and so on, up to the first one that is among them already, n at most
abbrev pub with_ancestry : State → ℕ → ℕ → List ℕ → List ℕ
with_ancestry s zero a held = held
with_ancestry s (suc n) a held = option_map_or (λ b. with_ancestry s n b (a ∷ held)) (new_parent s a held) (with_number a held)

-- these activations with others and all their ancestors; a parent has a lower number than its child, so activation a has fewer than a
-- ancestors
abbrev pub with_ancestries : State → List ℕ → List ℕ → List ℕ
with_ancestries s held [] = held
with_ancestries s held (a ∷ ns) = with_ancestries s (with_ancestry s a a held) ns

-- the held activations: those on stacks, and all their ancestors
abbrev pub held_activations : State → List ℕ
held_activations s = with_ancestries s [] (flat_map activations_on s.processes)

abbrev pub is_held : State → ℕ → Bool
is_held s a = is_number_among a (held_activations s)

-- a test that every activation passes, for a layout in which no frame is ever freed
abbrev pub is_made : State → ℕ → Bool
is_made s a = true

-- ---- where frames are: "Layout"

-- a frame: its activation, its first cell, and the number of its cells
pub record Frame : Type 0 where
  pub activation : ℕ
  pub first : ℕ
  pub cells : ℕ

-- the frames in the arena, in the order of their cells; COMMON is before them
abbrev pub Layout : Type 0
Layout = List Frame

-- the first cell of the lowest gap of at least n cells, where all cells before `from` are taken
abbrev pub lowest_gap : ℕ → ℕ → ℕ → Layout → Option ℕ
lowest_gap cells n from [] = if nat_le (from + n) cells then Some from else None
lowest_gap cells n from (f ∷ fs) = if nat_le (from + n) f.first then Some from else lowest_gap cells n (f.first + f.cells) fs

abbrev pub with_frame : Layout → Frame → Layout
with_frame [] f = f ∷ []
with_frame (g ∷ gs) f = if nat_lt f.first g.first then f ∷ (g ∷ gs) else g ∷ with_frame gs f

-- the layout with the frame of a new activation, at the front of the lowest gap that is long enough; none where there is no such gap
abbrev pub layout_with_activation : Units → ℕ → Layout → ℕ → ℕ → Option Layout
layout_with_activation program cells layout a n =
    option_map (λ first. with_frame layout (record { activation = a; first = first; cells = n })) (lowest_gap cells n (common_cells program) layout)

abbrev pub frame_of : Units → State → ℕ → ℕ
frame_of program s a = frame_cells (unit_at program (unit_of s a))

-- the layout after a step, which makes one activation or none
abbrev pub with_new : Units → ℕ → ℕ → State → Layout → Option Layout
with_new program cells n s layout =
    if nat_lt n (length s.activations) then layout_with_activation program cells layout (length s.activations) (frame_of program s (length s.activations)) else Some layout

abbrev pub remaining_layout : (State → ℕ → Bool) → State → Layout → Layout
remaining_layout has s layout = filter (λ (f : Frame). has s f.activation) layout

-- the layout after a turn from one state to the next; none where a frame has no gap
abbrev pub layout_after_step : Units → ℕ → (State → ℕ → Bool) → State → State → Layout → Option Layout
layout_after_step program cells has s s' layout = option_map (remaining_layout has s') (with_new program cells (length s.activations) s' layout)

abbrev pub opening_layout : Units → ℕ → Option Layout
opening_layout program cells = with_new program cells 0 (opening program) []

-- a state and the layout of its frames
pub record Placing : Type 0 where
  pub state : State
  pub layout : Option Layout

abbrev pub layout_after_turn : Units → ℕ → (State → ℕ → Bool) → State → State → Option Layout → Placing
layout_after_turn program cells has s s' None = record { state = s'; layout = None }
layout_after_turn program cells has s s' (Some layout) = record { state = s'; layout = layout_after_step program cells has s s' layout }

abbrev pub placing_turn : Units → ℕ → (State → ℕ → Bool) → Placing → ℕ → Placing
placing_turn program cells has x p = layout_after_turn program cells has x.state (state_after_turn program p x.state) x.layout

unfoldable pub placing_from : Units → ℕ → (State → ℕ → Bool) → Placing → List ℕ → Placing
placing_from program cells has x [] = x
placing_from program cells has x (p ∷ ps) = placing_from program cells has (placing_turn program cells has x p) ps

-- the layout after turns of these processes; none if a frame had no gap
abbrev pub layout_of : Units → ℕ → (State → ℕ → Bool) → List ℕ → Option Layout
layout_of program cells has processes =
    (placing_from program cells has (record { state = opening program; layout = opening_layout program cells }) processes).layout

-- ---- cells in use: "Layout"

abbrev pub frames_up_to : Units → (State → ℕ → Bool) → State → ℕ → ℕ
frames_up_to program has s zero = 0
frames_up_to program has s (suc n) = frames_up_to program has s n + (if has s (suc n) then frame_of program s (suc n) else 0)

-- the number of cells of COMMON and of all frames
abbrev pub used_cells : Units → (State → ℕ → Bool) → State → ℕ
used_cells program has s = common_cells program + frames_up_to program has s (length s.activations)
