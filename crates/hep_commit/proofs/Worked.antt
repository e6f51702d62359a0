-- Worked examples of own cells, of copies, of slots that are put back, and of a batch's start and end.
use Rattle.std.proofs.Common.{◌≡◌, ℕ, pos, false, List, [], ◌∷◌, Some, None, refl}
use Rattle.hep_machine.specs.Words.{Int, unset_cell}
use Rattle.hep_machine.specs.declared.slot.Slot.{Slot}
use Rattle.hep_code.specs.declared.instruction.Instruction.{Instruction}
use Rattle.hep_code.specs.declared.instruction.Instruction.TheVariants.{Push, Step}
use Rattle.hep_code.specs.declared.instruction.Operation.TheVariants.{EnterLoop, EndLoop, Jump, Return}
use Rattle.hep_code.specs.declared.variable.Variable.TheVariants.{Common, Local}
use Rattle.hep_private.specs.OwnState.{values_at}
use Rattle.hep_commit.specs.BatchStarts.{AreThere, slots_with}
use Rattle.hep_commit.specs.SegmentStarts.{copies_of}
use Rattle.hep_commit.specs.OwnCells.{own_cells_in}
use Rattle.hep_commit.specs.UndoLogs.{slots_of, with_slots}

-- two DOs, one in the other, of which the inner one has a variable in COMMON: its cells are own cells too
abbrev loops : List Instruction
loops =
    Push (Int (pos 1)) ∷ Push (Int (pos 2)) ∷ Push (Int (pos 1)) ∷ Step 1 (EnterLoop (Local false 1) 3 5 12) ∷ Step 1 (EndLoop (Local false 1) 3 5 12)
    ∷ Push (Int (pos 1)) ∷ Push (Int (pos 2)) ∷ Push (Int (pos 1)) ∷ Step 2 (EnterLoop (Common false 0) 5 10 4) ∷ Step 2 (EndLoop (Common false 0) 5 10 4)
    ∷ Step 3 (Jump 9) ∷ Step 4 (Jump 4) ∷ Step 5 Return ∷ []

worked-own : own_cells_in (1 ∷ 2 ∷ []) loops ≡ 1 ∷ 2 ∷ 3 ∷ 4 ∷ 5 ∷ 6 ∷ []
worked-own = refl

worked-none : own_cells_in [] (Step 1 Return ∷ []) ≡ []
worked-none = refl

abbrev number : ℕ → Slot
number n = record { value = Some (Int (pos n)); full = false }

-- a frame that begins at cell 1 of an arena
abbrev contents : List Slot
contents = number 7 ∷ number 8 ∷ unset_cell ∷ number 9 ∷ []

worked-copies :
    copies_of (values_at contents 1) (2 ∷ 1 ∷ 5 ∷ [])
    ≡ record { cell = 2; value = Some (Int (pos 9)) } ∷ record { cell = 1; value = None } ∷ record { cell = 5; value = None } ∷ []
worked-copies = refl

worked-slots : slots_of 1 (0 ∷ 2 ∷ []) contents ≡ number 8 ∷ number 9 ∷ []
worked-slots = refl

worked-back : with_slots 1 (0 ∷ 2 ∷ []) (number 8 ∷ number 9 ∷ []) (number 7 ∷ number 1 ∷ number 2 ∷ number 3 ∷ []) ≡ number 7 ∷ number 8 ∷ number 2 ∷ number 9 ∷ []
worked-back = refl

-- the start of a batch is there in two cells of the frame, of which one has no value
worked-there : AreThere 1 contents (values_at (number 8 ∷ []) 0) (0 ∷ 1 ∷ [])
worked-there = (refl, (refl, tt))

worked-end : with_slots 1 (0 ∷ 2 ∷ []) (slots_with (values_at (number 1 ∷ number 2 ∷ number 3 ∷ []) 0) (0 ∷ 2 ∷ [])) contents ≡ number 7 ∷ number 1 ∷ unset_cell ∷ number 3 ∷ []
worked-end = refl
