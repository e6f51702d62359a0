-- The values of a called unit's dummy arguments, by what they are given: X3.9-1978, 5.5.1 and 15.9.3.
use Rattle.std.specs.Prelude.{ℕ, ◌<◌, List, [], ◌∷◌, length, slice_get, Option, Some, None}
use Rattle.hep_machine.specs.Words.{Value, Bounds}
use Rattle.hep_machine.specs.declared.slot.Slot.{Slot}
use Rattle.hep_arena.specs.Holes.{IsOut}
use Rattle.hep_arena.specs.Space.{Space}
use Rattle.hep_image.specs.Addressing.{cells_in}
use Rattle.hep_step.specs.declared.dummy_storage.DummyStorage.{DummyStorage}
use Rattle.hep_step.specs.declared.dummy_storage.DummyStorage.TheVariants as giving
use Rattle.hep_code.specs.declared.bound.BoundOperation.{BoundOperation}
use Rattle.hep_code.specs.declared.bound.BoundOperation.TheVariants.{InCommon, InDummy}
use Rattle.hep_code.specs.BoundCode.{after_code, after_operation, coded_value}
use Rattle.hep_code.specs.DimensionCode.{coded_shape}

-- what is stored in a cell
abbrev pub stored_in : List Slot → ℕ → Option Value
stored_in contents p = (cells_in contents p).value

-- the value in the first storage unit that is given, or the value of the expression
abbrev pub stored_by : List Slot → Option DummyStorage → Option Value
stored_by contents None = None
stored_by contents (Some (giving.Value v)) = Some v
stored_by contents (Some (giving.Units first count)) = stored_in contents first

abbrev pub stored_for : List Slot → List DummyStorage → ℕ → Option Value
stored_for contents given k = stored_by contents (slice_get given k)

-- the result of code then
module _ (contents : List Slot) (given : List DummyStorage) where
  abbrev pub left_by_operation : BoundOperation → List Value → Option (List Value)
  left_by_operation o stack = after_operation (stored_in contents) (stored_for contents given) o stack

  abbrev pub left_by_code : List BoundOperation → Option (List Value)
  left_by_code code = after_code (stored_in contents) (stored_for contents given) code []

  abbrev pub value_by_code : List BoundOperation → Option Value
  value_by_code code = coded_value (stored_in contents) (stored_for contents given) code

  abbrev pub shape_by_code : List BoundOperation → Option Bounds
  shape_by_code code = coded_shape (stored_in contents) (stored_for contents given) code

-- ---- what can be read

module _ (space : Space) where
  -- a cell lies in the arena and in no hole
  abbrev pub IsCell : ℕ → Type 0
  IsCell p = (p < length space.contents) × IsOut p space.holes

  abbrev pub IsFirstCell : Option DummyStorage → Type 0
  IsFirstCell (Some (giving.Units first count)) = IsCell first
  IsFirstCell _ = Unit {0}

  -- what an operation reads can be read
  abbrev pub IsReadable : List DummyStorage → BoundOperation → Type 0
  IsReadable given (InCommon p) = IsCell p
  IsReadable given (InDummy k) = IsFirstCell (slice_get given k)
  IsReadable given _ = Unit {0}

  -- the same for all operations of some code
  abbrev pub AreReadable : List DummyStorage → List BoundOperation → Type 0
  AreReadable given [] = Unit {0}
  AreReadable given (o ∷ os) = IsReadable given o × AreReadable given os
