-- What actual arguments give dummy arguments, from the cells of the arena: X3.9-1978, 15.9.3.
use Rattle.std.specs.Prelude.{ℕ, ◌+◌, ◌-◌, nat_le, if◌then◌else◌, List, [], ◌∷◌, Option, Some, None, Result, Ok, Err, slice_get}
use Rattle.std.specs.Option.{unwrap_or}
use Rattle.hep_machine.specs.Words.{Value, integers_of, counted_element, elements}
use Rattle.hep_machine.specs.declared.event.Kind.{Kind}
use Rattle.hep_machine.specs.declared.event.Kind.TheVariants.{Range}
use Rattle.hep_machine.specs.declared.slot.Slot.{Slot}
use Rattle.hep_code.specs.declared.variable.Variable.{Variable}
use Rattle.hep_code.specs.declared.variable.Variable.TheVariants as variables
use Rattle.hep_code.specs.Words.{PassedArgument, by_value, by_reference}
use Rattle.hep_image.specs.declared.array.Array.{Array}
use Rattle.hep_image.specs.declared.array.Start.TheVariants.{Local, Common, Dummy}
use Rattle.hep_image.specs.Addressing.{base_at, bounds_at, rest_at}
use Rattle.hep_step.specs.declared.dummy_storage.DummyStorage.{DummyStorage}
use Rattle.hep_step.specs.declared.dummy_storage.DummyStorage.TheVariants as giving

-- ---- storage units: the first cell, and their number

-- a scalar is one storage unit
abbrev pub passed_of_scalar : ℕ → List Value → Result (ℕ × ℕ) Kind
passed_of_scalar base [] = Ok (base, 1)
passed_of_scalar base (v ∷ vs) = Err Range

-- those of an array from one of its elements on, where the array has `count` elements
abbrev pub passed_from_element : ℕ → ℕ → Option ℕ → Result (ℕ × ℕ) Kind
passed_from_element base count None = Err Range
passed_from_element base count (Some n) = if nat_le n count then Ok (base + (n - 1), (count + 1) - n) else Err Range

-- from the contents of the arena and the first cell of the caller's frame
module _ (cells : ℕ → Slot) (first : ℕ) where
  -- the number of elements of an array; where its last bound is open, the call gives it
  abbrev pub count_of : Array → ℕ
  count_of a = unwrap_or (elements (bounds_at cells first a.extents)) (rest_at cells first a.start)

  -- a whole array is passed from its first element on
  abbrev pub passed_of_array : Option Array → List Value → Result (ℕ × ℕ) Kind
  passed_of_array None subscripts = Err Range
  passed_of_array (Some a) [] = Ok (base_at cells first a.start, count_of a)
  passed_of_array (Some a) (v ∷ vs) =
      passed_from_element (base_at cells first a.start) (count_of a) (counted_element (bounds_at cells first a.extents) (integers_of (v ∷ vs)))

  module _ (arrays : List Array) where
    -- a variable, an array or an element of a unit with these arrays; RANGE where there is none
    abbrev pub passed_at : Variable → List Value → Result (ℕ × ℕ) Kind
    passed_at (variables.Local asynchronous c) subscripts = passed_of_scalar (base_at cells first (Local c)) subscripts
    passed_at (variables.Common asynchronous c) subscripts = passed_of_scalar (base_at cells first (Common c)) subscripts
    passed_at (variables.Dummy asynchronous c) subscripts = passed_of_scalar (base_at cells first (Dummy c)) subscripts
    passed_at (variables.Array asynchronous i) subscripts = passed_of_array (slice_get arrays i) subscripts
    passed_at variables.Absent subscripts = Err Range

-- ---- the results of all that is passed, from left to right, or the first fault

abbrev pub made_before : {T : Type 0} → Result T Kind → Result (List T) Kind → Result (List T) Kind
made_before (Err k) ts = Err k
made_before (Ok t) (Err k) = Err k
made_before (Ok t) (Ok ts) = Ok (t ∷ ts)

abbrev pub made_by : {T : Type 0} → (PassedArgument → Result T Kind) → List PassedArgument → Result (List T) Kind
made_by made [] = Ok []
made_by made (p ∷ ps) = made_before (made p) (made_by made ps)

-- ---- what is given

abbrev pub given_units : Result (ℕ × ℕ) Kind → Result DummyStorage Kind
given_units (Err k) = Err k
given_units (Ok units) = Ok (giving.Units units.0 units.1)

module _ (cells : ℕ → Slot) (first : ℕ) (arrays : List Array) where
  abbrev pub given_for : PassedArgument → Result DummyStorage Kind
  given_for (by_value v) = Ok (giving.Value v)
  given_for (by_reference x subscripts) = given_units (passed_at cells first arrays x subscripts)

  -- what all actual arguments give
  abbrev pub given_by : List PassedArgument → Result (List DummyStorage) Kind
  given_by = made_by given_for
