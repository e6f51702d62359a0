-- Cells in which private steps stored are restored: docs/MACHINE.md, "Private steps".
use Rattle.std.specs.Prelude.{◌≡◌, ◌+◌, ℕ, suc, true, List, [], ◌∷◌, slice_set}
use Rattle.hep_machine.specs.Words.{is_number_among}
use Rattle.hep_machine.specs.declared.slot.Slot.{Slot}
use Rattle.hep_image.specs.Addressing.{cells_in}
use Rattle.hep_code.specs.declared.instruction.Instruction.{Instruction}
use Rattle.hep_code.specs.declared.instruction.Instruction.TheVariants.{Step}
use Rattle.hep_code.specs.declared.instruction.Operation.{Operation}
use Rattle.hep_code.specs.declared.instruction.Operation.TheVariants.{EnterLoop, EndLoop}
use Rattle.hep_private.specs.declared.record.Record.{Record}
use Rattle.hep_private.specs.OwnState.{cells_of, stores_of}

-- these cells of a frame, which begins at `first`, get the slots that they had
abbrev pub put_back : ℕ → List ℕ → List Slot → List Slot → List Slot
put_back first [] saved contents = contents
put_back first (c ∷ cs) saved contents = put_back first cs saved (slice_set contents (first + c) (cells_in saved (first + c)))

abbrev pub AreAmong : List ℕ → List ℕ → Type 0
AreAmong cells [] = Unit {0}
AreAmong cells (c ∷ cs) = (is_number_among c cells ≡ true) × AreAmong cells cs

-- the steps store only in these cells
abbrev pub AreOf : List ℕ → List Record → Type 0
AreOf cells [] = Unit {0}
AreOf cells (r ∷ rs) = AreAmong cells (cells_of (stores_of r)) × AreOf cells rs

-- an operation of a DO, at its entry or at the end of an iteration, has its two cells among these
abbrev pub HasLoopIn : List ℕ → Operation → Type 0
HasLoopIn cells (EnterLoop x d inside behind) = (is_number_among d cells ≡ true) × (is_number_among (suc d) cells ≡ true)
HasLoopIn cells (EndLoop x d inside behind) = (is_number_among d cells ≡ true) × (is_number_among (suc d) cells ≡ true)
HasLoopIn cells o = Unit {0}

abbrev pub HasLoopAhead : List ℕ → List Instruction → Type 0
HasLoopAhead cells (Step line o ∷ is) = HasLoopIn cells o
HasLoopAhead cells is = Unit {0}
