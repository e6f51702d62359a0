-- Worked addresses: a frame of eleven cells behind two of COMMON, with a dummy array that has two storage units left.
use Rattle.std.specs.Prelude.{◌≡◌, ℕ, pos, false, List, [], ◌∷◌, Result, Ok, Err, Some, refl}
use Rattle.hep_machine.specs.Words.{Value, Int, unset_cell}
use Rattle.hep_machine.specs.declared.event.Kind.{Kind}
use Rattle.hep_machine.specs.declared.event.Kind.TheVariants.{Range}
use Rattle.hep_machine.specs.declared.slot.Slot.{Slot}
use Rattle.hep_code.specs.declared.variable.Variable.{Variable}
use Rattle.hep_code.specs.declared.variable.Variable.TheVariants as variables
use Rattle.hep_image.specs.declared.array.Array.{Array}
use Rattle.hep_image.specs.declared.array.Extents.TheVariants.{Adjustable}
use Rattle.hep_image.specs.declared.array.Start.TheVariants.{Dummy}
use Rattle.hep_image.specs.Addressing.{address_of, cells_in, counts_at}

abbrev pub number : ℕ → Slot
number n = record { value = Some (Int (pos n)); full = false }

-- two cells of COMMON, and from cell 2 on: a local scalar, the two cells of the dummy array, the two of a dummy argument that
-- stands for an expression, the bounds 1:3 and 1:*, and the count of a DO, or another dummy argument
abbrev pub contents : List Slot
contents =
    number 40 ∷ number 41
    ∷ (number 7 ∷ (number 0 ∷ number 2 ∷ (number 9 ∷ unset_cell ∷ (number 1 ∷ number 3 ∷ (number 1 ∷ unset_cell ∷ (number 4 ∷ unset_cell ∷ []))))))

abbrev pub array : Array
array = record { start = Dummy 1; extents = Adjustable 5 2 }

abbrev at : Variable → List ℕ → Result ℕ Kind
at x subscripts = address_of (cells_in contents) 2 (array ∷ []) x (values subscripts)
  where
    values : List ℕ → List Value
    values [] = []
    values (n ∷ ns) = Int (pos n) ∷ values ns

-- ---- scalars

local : at (variables.Local false 0) [] ≡ Ok 2
local = refl

common : at (variables.Common false 1) [] ≡ Ok 1
common = refl

dummy : at (variables.Dummy false 1) [] ≡ Ok 0
dummy = refl

-- its value is in its own first cell
expression : at (variables.Dummy false 3) [] ≡ Ok 5
expression = refl

scalar_with_a_subscript : at (variables.Local false 0) (1 ∷ []) ≡ Err Range
scalar_with_a_subscript = refl

-- ---- elements

first : at (variables.Array false 0) (1 ∷ 1 ∷ []) ≡ Ok 0
first = refl

second : at (variables.Array false 0) (2 ∷ 1 ∷ []) ≡ Ok 1
second = refl

-- past what the actual argument has, though within the bounds
third : at (variables.Array false 0) (3 ∷ 1 ∷ []) ≡ Err Range
third = refl

outside : at (variables.Array false 0) (4 ∷ 1 ∷ []) ≡ Err Range
outside = refl

one_subscript : at (variables.Array false 0) (1 ∷ []) ≡ Err Range
one_subscript = refl

-- ---- DOs

left_without_increment : counts_at (cells_in contents) 2 9 ≡ (4, pos 1)
left_without_increment = refl
