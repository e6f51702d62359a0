-- The greatest number of targets of a PURGE: docs/LANGUAGE.md, "Statements for full and empty".
use Rattle.std.specs.Prelude.{ℕ, zero, suc, max, List, length, Option, Some, None, slice_get}
use Rattle.hep_code.specs.declared.instruction.Instruction.{Instruction}
use Rattle.hep_code.specs.declared.instruction.Instruction.TheVariants.{Step}
use Rattle.hep_code.specs.declared.instruction.Operation.TheVariants.{Purge}

-- the greatest of the first n numbers, and 0 where n is 0
abbrev pub most_of : (ℕ → ℕ) → ℕ → ℕ
most_of number zero = 0
most_of number (suc n) = max (most_of number n) (number n)

-- the number of targets of an instruction, where it is a PURGE
abbrev pub targets_in : Option Instruction → ℕ
targets_in (Some (Step line (Purge count next))) = count
targets_in _ = 0

-- the greatest number of targets of a PURGE in the code
abbrev pub most_targets : List Instruction → ℕ
most_targets code = most_of (λ i. targets_in (slice_get code i)) (length code)
