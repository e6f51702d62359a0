-- Worked changes: a frame from cell 2 on, with I$(3) in its first three cells, of which the first is full, and N in the fourth.
use Rattle.std.specs.Prelude.{◌≡◌, ℕ, Bool, pos, true, false, List, [], ◌∷◌, Option, Some, None, refl}
use Rattle.hep_machine.specs.Words.{IsFull, SetEmpty, WaitFull, Value, Int, unset_cell}
use Rattle.hep_machine.specs.declared.slot.Slot.{Slot}
use Rattle.hep_cells.specs.declared.want.Want.{Want}
use Rattle.hep_code.specs.declared.instruction.Evaluation.TheVariants.{Load, Test}
use Rattle.hep_code.specs.declared.instruction.Instruction.TheVariants.{Push, Step}
use Rattle.hep_code.specs.declared.instruction.Operation.{Operation}
use Rattle.hep_code.specs.declared.instruction.Operation.TheVariants.{Evaluate, Store, Purge}
use Rattle.hep_code.specs.declared.variable.Variable.{Variable}
use Rattle.hep_code.specs.declared.variable.Variable.TheVariants.{Array as array_variable, Local}
use Rattle.hep_image.specs.declared.array.Array.{Array}
use Rattle.hep_image.specs.declared.array.Extents.TheVariants.{Constant}
use Rattle.hep_image.specs.declared.array.Start.TheVariants as start
use Rattle.hep_step.specs.Effects.{changed_at}

abbrev array : Array
array = record { start = start.Local 0; extents = Constant (record { lower = pos 1; upper = Some (pos 3) } ∷ []) }

abbrev element : Variable
element = array_variable true 0

abbrev six : Bool → Slot
six full = record { value = Some (Int (pos 6)); full = full }

abbrev contents : List Slot
contents = unset_cell ∷ unset_cell ∷ (six true ∷ six false ∷ unset_cell ∷ (six false ∷ []))

-- a value to be put behind the operands, and then the operation
abbrev by : Operation → List ℕ → Option Want
by o operands = changed_at (Push (Int (pos 1)) ∷ (Step 7 o ∷ [])) (array ∷ []) 2 contents (values operands) 1
  where
    values : List ℕ → List Value
    values [] = []
    values (n ∷ ns) = Int (pos n) ∷ values ns

-- ---- values

-- another operand stands in front of the subscript
read : by (Evaluate (Load element 1)) (9 ∷ 1 ∷ []) ≡ Some (record { cell = 2; full = false })
read = refl

waits : by (Evaluate (Load element 1)) (9 ∷ 2 ∷ []) ≡ None
waits = refl

outside : by (Evaluate (Load element 1)) (9 ∷ 4 ∷ []) ≡ None
outside = refl

plain : by (Evaluate (Load (Local false 3) 0)) (9 ∷ []) ≡ None
plain = refl

emptied : by (Evaluate (Test SetEmpty element 1)) (1 ∷ []) ≡ Some (record { cell = 2; full = false })
emptied = refl

-- it was empty before
emptied_again : by (Evaluate (Test SetEmpty element 1)) (2 ∷ []) ≡ None
emptied_again = refl

waited : by (Evaluate (Test WaitFull element 1)) (1 ∷ []) ≡ None
waited = refl

asked : by (Evaluate (Test IsFull element 1)) (1 ∷ []) ≡ None
asked = refl

-- ---- assignments: the value stands in front of the subscript

assigned : by (Store element 1 2) (9 ∷ 3 ∷ []) ≡ Some (record { cell = 4; full = true })
assigned = refl

assigned_full : by (Store element 1 2) (9 ∷ 1 ∷ []) ≡ None
assigned_full = refl

assigned_plain : by (Store (Local false 3) 0 2) (9 ∷ []) ≡ None
assigned_plain = refl

-- ---- what is apart

purged : by (Purge 1 2) (1 ∷ []) ≡ None
purged = refl

pushed : changed_at (Push (Int (pos 1)) ∷ []) (array ∷ []) 2 [] [] 0 ≡ None
pushed = refl
