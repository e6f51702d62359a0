-- Worked dummy arguments of a unit that is called, with what is given to them.
use Rattle.std.specs.Prelude.{◌≡◌, ℕ, pos, Bool, true, false, List, [], ◌∷◌, Option, Some, None, refl}
use Rattle.std.specs.Option.{option_map}
use Rattle.hep_machine.specs.Words.{Int, Bounds}
use Rattle.hep_machine.specs.declared.slot.Slot.{Slot}
use Rattle.hep_code.specs.declared.bound.BoundOperation.TheVariants as operations
use Rattle.hep_image.specs.declared.dummy.DummyArgument.{DummyArgument}
use Rattle.hep_image.specs.declared.dummy.DummyArgument.TheVariants.{Scalar, Array, Adjustable}
use Rattle.hep_step.specs.declared.dummy_storage.DummyStorage.{DummyStorage}
use Rattle.hep_step.specs.declared.dummy_storage.DummyStorage.TheVariants as giving
use Rattle.hep_binding.specs.DummyShapes.{are_fitting, longest_code, shapes_of}

abbrev bound : ℕ → Option ℕ → Bounds
bound lower upper = record { lower = pos lower; upper = option_map pos upper } ∷ []

-- ---- constant bounds

-- the second dummy argument is an array of three rows, whose second dimension is from 1 on
abbrev rows : Option ℕ → List DummyArgument
rows last = Scalar ∷ Array (record { lower = pos 1; upper = Some (pos 3) } ∷ bound 1 last) ∷ []

abbrev fitting : Option ℕ → List DummyStorage → Bool
fitting last gs = are_fitting [] gs (rows last)

-- six elements fit six storage units; they don't fit five, nor an expression, whatever is given to the first dummy argument
six_in_six : fitting (Some 2) (giving.Value (Int (pos 8)) ∷ giving.Units 20 6 ∷ []) ≡ true
six_in_six = refl

six_in_five : fitting (Some 2) (giving.Units 20 6 ∷ giving.Units 20 5 ∷ []) ≡ false
six_in_five = refl

six_in_an_expression : fitting (Some 2) (giving.Units 20 6 ∷ giving.Value (Int (pos 8)) ∷ []) ≡ false
six_in_an_expression = refl

-- one whose last bound is open fits anywhere
open_in_one : fitting None (giving.Units 20 6 ∷ giving.Units 20 1 ∷ []) ≡ true
open_in_one = refl

-- ---- adjustable ones

-- two cells of COMMON, the first one with 4
abbrev contents : List Slot
contents = record { value = Some (Int (pos 4)); full = false } ∷ record { value = None; full = false } ∷ []

-- the second dummy argument is an array from 1 to the first one, and the third from 1 to what is in a cell of COMMON
abbrev adjusted : ℕ → List DummyArgument
adjusted cell =
    Scalar
    ∷ Adjustable (operations.Value (Int (pos 1)) ∷ operations.InDummy 0 ∷ [])
    ∷ Adjustable (operations.Value (Int (pos 1)) ∷ operations.InCommon cell ∷ [])
    ∷ []

abbrev three : DummyStorage
three = giving.Value (Int (pos 3))

-- three elements and four; the first is what an expression gives, or what is stored in the storage unit that is given
by_expression : shapes_of contents (three ∷ giving.Units 5 3 ∷ giving.Units 8 4 ∷ []) (adjusted 0) ≡ None ∷ Some (bound 1 (Some 3)) ∷ Some (bound 1 (Some 4)) ∷ []
by_expression = refl

by_variable : shapes_of contents (giving.Units 0 1 ∷ giving.Units 5 3 ∷ giving.Units 8 4 ∷ []) (adjusted 0) ≡ None ∷ Some (bound 1 (Some 4)) ∷ Some (bound 1 (Some 4)) ∷ []
by_variable = refl

three_and_four : are_fitting contents (three ∷ giving.Units 5 3 ∷ giving.Units 8 4 ∷ []) (adjusted 0) ≡ true
three_and_four = refl

four_in_three : are_fitting contents (giving.Units 0 1 ∷ giving.Units 5 3 ∷ giving.Units 8 4 ∷ []) (adjusted 0) ≡ false
four_in_three = refl

-- a bound that has no value is no bound
no_value : are_fitting contents (three ∷ giving.Units 5 3 ∷ giving.Units 8 4 ∷ []) (adjusted 1) ≡ false
no_value = refl

longest : longest_code (adjusted 0) ≡ 2
longest = refl
