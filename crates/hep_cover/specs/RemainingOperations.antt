-- The number of operations left of a statement in the code, and the number of operations of each line's statement.
use Rattle.std.specs.Prelude.{ℕ, suc, List, [], ◌∷◌}
use Rattle.hep_code.specs.declared.instruction.Instruction.{Instruction}
use Rattle.hep_code.specs.declared.instruction.Instruction.TheVariants.{Step}
use Rattle.hep_code.specs.declared.instruction.Operation.{Operation}
use Rattle.hep_code.specs.declared.instruction.Operation.TheVariants.{Evaluate, Refer, Condition, EndLoop}
pub use Rattle.hep_cover.specs.StatementStarts.{with_line}

-- an operation that gives a value, or tests the condition of a logical IF, has more after it; the end of a DO is no
-- part of a statement
abbrev pub ahead_by : Operation → ℕ → ℕ
ahead_by (Evaluate e) behind = suc behind
ahead_by (Refer u count) behind = suc behind
ahead_by (Condition otherwise) behind = suc behind
ahead_by (EndLoop x cells inside outside) behind = 0
ahead_by _ behind = 1

abbrev pub ahead_of : Instruction → ℕ → ℕ
ahead_of (Step line o) behind = ahead_by o behind
ahead_of _ behind = behind

-- the number left of the statement of the first of these instructions
abbrev pub operations_ahead : List Instruction → ℕ
operations_ahead [] = 0
operations_ahead (i ∷ is) = ahead_of i (operations_ahead is)

-- ---- by lines

abbrev pub noted_by : Operation → ℕ → ℕ → List ℕ → List ℕ
noted_by (EndLoop x cells inside outside) line ahead found = found
noted_by _ line ahead found = with_line found line ahead

abbrev pub noted : Instruction → ℕ → List ℕ → List ℕ
noted (Step line o) ahead found = noted_by o line ahead found
noted _ ahead found = found

-- from the last instruction to the first, so that the number at the first operation of a line is kept
abbrev pub noted_from : List Instruction → List ℕ → List ℕ
noted_from [] found = found
noted_from (i ∷ is) found = noted i (operations_ahead (i ∷ is)) (noted_from is found)
