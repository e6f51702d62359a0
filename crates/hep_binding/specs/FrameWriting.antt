-- The frame of a new activation while its cells are written: docs/MACHINE.md, "Variables and frames".
use Rattle.std.specs.Prelude.{◌≡◌, ℕ, ◌+◌, ◌<◌, ◌≤◌, Bool, false, nat_eq, nat_lt, pos, if◌then◌else◌, List, Option, Some, None, length, slice_set}
use Rattle.hep_machine.specs.Words.{Statement, Units, dummies_of, unit_at, unset_cell, Frame, Layout, activation_of, unit_of, State, Store}
use Rattle.hep_machine.specs.declared.slot.Slot.{Slot}
use Rattle.hep_arena.specs.Gaps.{frame_among}
use Rattle.hep_arena.specs.Holes.{IsOut}
use Rattle.hep_arena.specs.Space.{Space}
use Rattle.hep_image.specs.Image.{most_cells}
use Rattle.hep_layout.specs.Words.{DescriptorSlots, number, descriptor_slots, place_of_part}
use Rattle.hep_proc.specs.FrameTable.{FramesOf, with_unset}
use Rattle.hep_step.specs.declared.dummy_storage.DummyStorage.{DummyStorage}
use Rattle.hep_step.specs.declared.dummy_storage.DummyStorage.TheVariants as given
use Rattle.hep_binding.specs.ActualArguments.{AreGiven}
use Rattle.hep_code.specs.Sources.{IsNamedOnce}

-- a cell at this position, if it has one, is one of the first m
abbrev pub is_before : ℕ → Option ℕ → Bool
is_before m None = false
is_before m (Some n) = nat_lt n m

-- the first m cells of activation a's frame have to have the values of a state, and its others have to be unset; the
-- requirements on other frames are as before
abbrev pub wanted_up_to : Units → State → Layout → ℕ → ℕ → DescriptorSlots → DescriptorSlots
wanted_up_to program s layout a m wanted b c =
    if nat_eq b a then (if is_before m (place_of_part (unit_at program (unit_of s a)) c.0 c.1) then descriptor_slots program s layout a c else Some unset_cell) else wanted b c

-- the frames of a state, where the first m cells of activation a's are written
abbrev pub written_up_to : FramesOf → ℕ → ℕ → FramesOf
written_up_to f a m = record f { wanted = wanted_up_to f.program f.state f.layout a m f.wanted }

-- the same in another state, with none of activation a's cells written
abbrev pub unwritten : FramesOf → State → ℕ → FramesOf
unwritten f s a = record f { state = s; wanted = with_unset a f.wanted }

-- the same with another store
abbrev pub stored_in : FramesOf → Store → FramesOf
stored_in f store = record f { state = record f.state { store = store } }

-- the unit that activation a runs
abbrev pub unit_framed : FramesOf → ℕ → List Statement
unit_framed f a = unit_at f.program (unit_of f.state a)

-- in an arena that isn't too large `count` cells from one on are taken
pub record AreCellsOut (at count : ℕ) (arena : Space) : Type 0 where
  pub few : length arena.contents ≤ most_cells
  pub inside : at + count ≤ length arena.contents
  pub out : (p : ℕ) → at ≤ p → p < at + count → IsOut p arena.holes

-- one cell is written
pub record IsSet (p : ℕ) (slot : Slot) (before after : Space) : Type 0 where
  pub contents_are : after.contents ≡ slice_set before.contents p slot
  pub holes_are : after.holes ≡ before.holes

-- the frame of activation a begins at a cell, and its dummy arguments, whose names are distinct, are associated with
-- what is given
pub record IsBinding (program : Units) (s : State) (layout : Layout) (a first : ℕ) (given : List DummyStorage) : Type 0 where
  pub frame : Frame
  pub framed : frame_among a layout ≡ Some frame
  pub begins : frame.first ≡ first
  pub distinct : IsNamedOnce (dummies_of (unit_at program (unit_of s a)))
  pub given_are : AreGiven program s layout a (dummies_of (unit_at program (unit_of s a))) (activation_of s a).dummies given

-- what is given is written to the two cells of a dummy argument, from a cell on: a value doesn't change the second
-- one
abbrev pub IsPut : ℕ → DummyStorage → Space → Space → Type 0
IsPut p (given.Value v) before after = IsSet p (record { value = Some v; full = false }) before after
IsPut p (given.Units first count) before after = (between : Space) × IsSet p (number (pos first)) before between × IsSet (p + 1) (number (pos count)) between after
