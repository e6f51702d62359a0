-- The code of the units of a program, and the places of its variables: docs/MACHINE.md, "Variables and frames".
use Rattle.std.specs.Prelude.{◌≡◌, ◌≢◌, ◌<◌, ℕ, Bool, true, false, List, map, length, Some, slice_get}
use Rattle.hep_machine.specs.Words.{Name, Statement, Units, dummies_of, function_name, is_main, subroutine_name, unit_at, is_array}
use Rattle.hep_code.specs.declared.instruction.Instruction.{Instruction}
use Rattle.hep_code.specs.declared.variable.Variable.{Variable}
use Rattle.hep_code.specs.declared.variable.Variable.TheVariants.{Absent}
use Rattle.hep_code.specs.Words.{addressed_unit, code_of}
use Rattle.hep_image.specs.declared.array.Start.{Start}
use Rattle.hep_image.specs.Places.{addresses_of, array_of, arrays_of, start_of}

-- the code of unit u
abbrev pub code_in : Units → ℕ → List Instruction
code_in program u = code_of (addressed_unit program (addresses_of program) u)

-- a variable that has storage units
abbrev pub IsPlaced : Variable → Type 0
IsPlaced x = x ≢ Absent

abbrev pub ArePlaced : List Variable → Type 0
ArePlaced xs = (i : ℕ) (x : Variable) → slice_get xs i ≡ Some x → IsPlaced x

-- ---- arrays

-- an array of a unit, which has a first storage unit, is the one of this index among all of them:
-- docs/ARCHITECTURE.md, "Forms"
abbrev pub IsArrayAt : Units → List Statement → Bool → ℕ → Type 0
IsArrayAt program unit asynchronous i =
    (x : Name) × (at : Start)
    × (x.asynchronous ≡ asynchronous)
    × (is_array unit x ≡ true)
    × (slice_get (arrays_of unit) i ≡ Some x)
    × (slice_get (map (array_of program unit) (arrays_of unit)) i ≡ Some (array_of program unit x))
    × (start_of program unit x ≡ Some at)

-- ---- calls

-- a unit is a subroutine with n dummy arguments: X3.9-1978, 15.6.1 and 15.6.2.3
abbrev pub IsCalledWith : Units → ℕ → ℕ → Type 0
IsCalledWith program u n =
    (u < length program) × (is_main (subroutine_name (unit_at program u)) ≡ false) × (n ≡ length (dummies_of (unit_at program u)))

-- a unit is a function of the program with n dummy arguments: 15.5.1 and 15.5.2.2
abbrev pub IsReferredWith : Units → ℕ → ℕ → Type 0
IsReferredWith program u n =
    (u < length program)
    × ((x : Name) × (function_name (unit_at program u) ≡ Some x))
    × (n ≡ length (dummies_of (unit_at program u)))
