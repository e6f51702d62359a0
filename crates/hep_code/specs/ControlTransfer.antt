-- The next index after an operation, and the number of operands before an instruction, by their use after it: X3.9-1978, section 11, and
-- docs/MACHINE.md, "Evaluation".
use Rattle.std.specs.Prelude.{ℕ, zero, suc, ◌+◌, ℤ, pos, negsuc, nat_lt, if◌then◌else◌, List, [], ◌∷◌, Option, Some, slice_get, ◌-◌, take, None}
use Rattle.hep_machine.specs.Words.{Value, integer_of, logical_of, no_value}
use Rattle.hep_code.specs.declared.instruction.Instruction.{Instruction}
use Rattle.hep_code.specs.declared.instruction.Instruction.TheVariants.{To, Push, Step, Pass, Show}
use Rattle.hep_code.specs.declared.instruction.Operation.{Operation}
use Rattle.hep_code.specs.declared.instruction.Operation.TheVariants.{Store, Jump, Choose, BySign, Condition, Branch, EnterLoop, EndLoop, Call, Create, Purge, Print, Resume, Refer, Evaluate}
use Rattle.hep_code.specs.declared.instruction.Argument.{Argument}
use Rattle.hep_code.specs.declared.instruction.Argument.TheVariants.{Evaluated, Referred}
use Rattle.hep_code.specs.declared.instruction.Printed.{Printed}
use Rattle.hep_code.specs.declared.instruction.Printed.TheVariants.{Operand, Characters}
use Rattle.hep_code.specs.StatementCode.{arity}
use Rattle.hep_code.specs.Limits.{most_operands}

-- ---- the next index after operations that end a statement: X3.9-1978, section 11

abbrev pub index_at : Option Instruction → ℕ → ℕ
index_at (Some (To index)) next = index
index_at _ next = next

-- computed GO TO: the entry of this number, counted from 1, of `count` entries
abbrev pub index_chosen : List Instruction → ℕ → ℕ → ℤ → ℕ
index_chosen entries count next (pos zero) = next
index_chosen entries count next (pos (suc n)) = if nat_lt n count then index_at (slice_get entries n) next else next
index_chosen entries count next (negsuc n) = next

abbrev pub index_by_sign : ℕ → ℕ → ℕ → ℤ → ℕ
index_by_sign negative equal positive (pos zero) = equal
index_by_sign negative equal positive (pos (suc n)) = positive
index_by_sign negative equal positive (negsuc n) = negative

abbrev pub first_operand : List Value → Value
first_operand [] = no_value
first_operand (v ∷ vs) = v

-- the index that the operation at an index leads to, with its entries and its operands; for a CALL, after the
-- subroutine has returned. A DO and its end have an index for each case, defined below
abbrev pub led_to : Operation → List Instruction → List Value → ℕ → ℕ
led_to (Store x n next) entries vs index = next
led_to (Jump next) entries vs index = next
led_to (Choose count next) entries vs index = index_chosen entries count next (integer_of (first_operand vs))
led_to (BySign negative equal positive) entries vs index = index_by_sign negative equal positive (integer_of (first_operand vs))
led_to (Condition otherwise) entries vs index = if logical_of (first_operand vs) then index + 1 else otherwise
led_to (Branch inside otherwise) entries vs index = if logical_of (first_operand vs) then inside else otherwise
led_to (Call u count next) entries vs index = next
led_to (Create u count next) entries vs index = next
led_to (Purge count next) entries vs index = next
led_to (Print count next) entries vs index = next
led_to (Resume next) entries vs index = next
led_to _ entries vs index = index

-- into the range where iterations are left, otherwise after the DO
abbrev pub index_by_count : ℕ → ℕ → ℕ → ℕ
index_by_count inside behind zero = behind
index_by_count inside behind (suc n) = inside

-- a DO and its end, by the number of iterations left
abbrev pub led_by_count : Operation → ℕ → ℕ → ℕ
led_by_count (EnterLoop x cells inside behind) count index = index_by_count inside behind count
led_by_count (EndLoop x cells inside behind) count index = index_by_count inside behind count
led_by_count _ count index = index

-- ---- operands of the arguments and items after an operation

abbrev pub operands_passed : Argument → ℕ
operands_passed Evaluated = 1
operands_passed (Referred x n) = n

abbrev pub operands_shown : Printed → ℕ
operands_shown Operand = 1
operands_shown (Characters cs) = 0

abbrev pub operands_of_entry : Instruction → ℕ
operands_of_entry (Pass a) = operands_passed a
operands_of_entry (Show p) = operands_shown p
operands_of_entry _ = 0

abbrev pub operands_of_entries : List Instruction → ℕ
operands_of_entries [] = 0
operands_of_entries (i ∷ is) = operands_of_entry i + operands_of_entries is

-- ---- operands of what comes next

-- those of an operation, where there are n before the first of the instructions after it
abbrev pub operands_by : Operation → ℕ → List Instruction → ℕ
operands_by (Evaluate e) n is = arity e + (n - 1)
operands_by (Refer u count) n is = operands_of_entries (take count is) + (n - 1)
operands_by (Store x subscripts next) n is = 1 + subscripts
operands_by (Choose count next) n is = 1
operands_by (BySign negative equal positive) n is = 1
operands_by (Condition otherwise) n is = 1
operands_by (Branch inside otherwise) n is = 1
operands_by (EnterLoop x cells inside behind) n is = 3
operands_by (Call u count next) n is = operands_of_entries (take count is)
operands_by (Create u count next) n is = operands_of_entries (take count is)
operands_by (Purge count next) n is = operands_of_entries (take count is)
operands_by (Print count next) n is = operands_of_entries (take count is)
operands_by _ n is = 0

abbrev pub operands_before : Instruction → ℕ → List Instruction → ℕ
operands_before (Push v) n is = n - 1
operands_before (Step line o) n is = operands_by o n is
operands_before (Pass a) n is = n
operands_before _ n is = 0

-- those before the first of these instructions
abbrev pub operands_ahead : List Instruction → ℕ
operands_ahead [] = 0
operands_ahead (i ∷ is) = operands_before i (operands_ahead is) is

-- ---- the deepest stack of operands

abbrev pub deeper : ℕ → ℕ → ℕ
deeper m n = if nat_lt m n then n else m

abbrev pub deepest : List Instruction → ℕ
deepest [] = 0
deepest (i ∷ is) = deeper (deepest is) (operands_ahead (i ∷ is))

abbrev pub line_before : Instruction → ℕ → ℕ
line_before (Step line o) l = line
line_before _ l = l

-- the line of the first operation among these instructions
abbrev pub line_ahead : List Instruction → ℕ
line_ahead [] = 0
line_ahead (i ∷ is) = line_before i (line_ahead is)

-- the line of the first statement that has more
abbrev pub line_too_deep : List Instruction → Option ℕ
line_too_deep [] = None
line_too_deep (i ∷ is) = if nat_lt most_operands (operands_ahead (i ∷ is)) then Some (line_ahead (i ∷ is)) else line_too_deep is
