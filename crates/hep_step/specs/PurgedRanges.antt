-- The cells of the arena that a PURGE empties: docs/LANGUAGE.md, 9, and docs/MACHINE.md, "Steps".
use Rattle.std.specs.Prelude.{ℕ, Bool, true, false, if◌then◌else◌, List, [], Result, Ok, Err}
use Rattle.hep_machine.specs.Words.{Value}
use Rattle.hep_machine.specs.declared.event.Kind.{Kind}
use Rattle.hep_machine.specs.declared.slot.Slot.{Slot}
use Rattle.hep_code.specs.declared.variable.Variable.{Variable}
use Rattle.hep_code.specs.declared.variable.Variable.TheVariants.{Array as ArrayAt}
use Rattle.hep_code.specs.Words.{PassedArgument, by_value, by_reference}
use Rattle.hep_image.specs.declared.array.Array.{Array}
use Rattle.hep_step.specs.ArgumentPassing.{made_by, passed_at}
use Rattle.hep_step.specs.declared.closed_range.ClosedRange.{ClosedRange}

-- ---- one target

-- an array without subscripts is purged with all its elements
abbrev pub is_whole : Variable → List Value → Bool
is_whole (ArrayAt asynchronous i) [] = true
is_whole x subscripts = false

-- of a whole array all storage units that would be passed, of a scalar or an element just its own
abbrev pub range_in : Bool → Result (ℕ × ℕ) Kind → Result ClosedRange Kind
range_in whole (Err k) = Err k
range_in whole (Ok units) = Ok (record { first = units.0; cells = if whole then units.1 else 1 })

-- ---- all targets

-- the value of an expression is in no cell; a PURGE has no such target
abbrev pub no_cells : ClosedRange
no_cells = record { first = 0; cells = 0 }

-- from the contents of the arena, the first cell of the frame, and the arrays of the unit
module _ (cells : ℕ → Slot) (first : ℕ) (arrays : List Array) where
  -- RANGE for a target that doesn't exist
  abbrev pub range_for : PassedArgument → Result ClosedRange Kind
  range_for (by_value v) = Ok no_cells
  range_for (by_reference x subscripts) = range_in (is_whole x subscripts) (passed_at cells first arrays x subscripts)

  -- the ranges of all targets from left to right, or the first fault
  abbrev pub ranges_of : List PassedArgument → Result (List ClosedRange) Kind
  ranges_of = made_by range_for
