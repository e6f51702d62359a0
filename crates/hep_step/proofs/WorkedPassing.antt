-- Worked actual arguments: a frame of eleven cells behind two of COMMON, with a dummy array that has two storage units left.
use Rattle.std.specs.Prelude.{◌≡◌, ℕ, pos, false, List, [], ◌∷◌, Result, Ok, Err, refl}
use Rattle.hep_machine.specs.Words.{Value, Int}
use Rattle.hep_machine.specs.declared.event.Kind.{Kind}
use Rattle.hep_machine.specs.declared.event.Kind.TheVariants.{Range}
use Rattle.hep_code.specs.declared.instruction.Argument.TheVariants.{Evaluated, Referred}
use Rattle.hep_code.specs.declared.instruction.Instruction.{Instruction}
use Rattle.hep_code.specs.declared.instruction.Instruction.TheVariants.{Pass}
use Rattle.hep_code.specs.declared.variable.Variable.{Variable}
use Rattle.hep_code.specs.declared.variable.Variable.TheVariants as variables
use Rattle.hep_code.specs.Words.{passed_from}
use Rattle.hep_image.specs.Addressing.{cells_in}
use Rattle.hep_step.proofs.WorkedAddresses.{array, contents}
use Rattle.hep_step.specs.declared.dummy_storage.DummyStorage.{DummyStorage}
use Rattle.hep_step.specs.declared.dummy_storage.DummyStorage.TheVariants as giving
use Rattle.hep_step.specs.ArgumentPassing.{given_by, passed_at}

abbrev values : List ℕ → List Value
values [] = []
values (n ∷ ns) = Int (pos n) ∷ values ns

abbrev at : Variable → List ℕ → Result (ℕ × ℕ) Kind
at x subscripts = passed_at (cells_in contents) 2 (array ∷ []) x (values subscripts)

-- ---- scalars

local : at (variables.Local false 0) [] ≡ Ok (2, 1)
local = refl

common : at (variables.Common false 1) [] ≡ Ok (1, 1)
common = refl

-- the value of an expression is passed on as the storage unit that it is in
expression : at (variables.Dummy false 3) [] ≡ Ok (5, 1)
expression = refl

scalar_with_a_subscript : at (variables.Local false 0) (1 ∷ []) ≡ Err Range
scalar_with_a_subscript = refl

-- ---- arrays and elements

whole : at (variables.Array false 0) [] ≡ Ok (0, 2)
whole = refl

first : at (variables.Array false 0) (1 ∷ 1 ∷ []) ≡ Ok (0, 2)
first = refl

second : at (variables.Array false 0) (2 ∷ 1 ∷ []) ≡ Ok (1, 1)
second = refl

-- past what the caller's own actual argument has, though within the bounds
third : at (variables.Array false 0) (3 ∷ 1 ∷ []) ≡ Err Range
third = refl

-- ---- all of them

abbrev given : List Instruction → List ℕ → Result (List DummyStorage) Kind
given entries operands = given_by (cells_in contents) 2 (array ∷ []) (passed_from 3 entries (values operands))

-- an expression, an element and a whole array; what stands behind is another's
all : given (Pass Evaluated ∷ Pass (Referred (variables.Array false 0) 2) ∷ Pass (Referred (variables.Array false 0) 0) ∷ Pass Evaluated ∷ []) (8 ∷ 2 ∷ 1 ∷ [])
    ≡ Ok (giving.Value (Int (pos 8)) ∷ giving.Units 1 1 ∷ giving.Units 0 2 ∷ [])
all = refl

fault : given (Pass Evaluated ∷ Pass (Referred (variables.Array false 0) 2) ∷ Pass Evaluated ∷ []) (8 ∷ 4 ∷ 1 ∷ 5 ∷ []) ≡ Err Range
fault = refl
