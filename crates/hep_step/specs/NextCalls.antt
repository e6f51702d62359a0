-- The activation that a CALL, CREATE or reference makes when it comes next: X3.9-1978, 15.5.2 and 15.6.2, and
-- docs/MACHINE.md, "Steps".
use Rattle.std.specs.Prelude.{◌≡◌, ◌+◌, ◌-◌, ℕ, ◌∷◌, Bool, true, false, List, [], ◌++◌, drop, length, map, take}
use Rattle.std.specs.List.{flat_map}
use Rattle.hep_machine.specs.Words.{Name, Value, Units, Actual, Next, calling, creating, does, function_unit, next_of, plug_work, referring, wants, Level, Top, unit_called, unit_on_top}
use Rattle.hep_code.specs.declared.instruction.Instruction.{Instruction}
use Rattle.hep_code.specs.declared.instruction.Instruction.TheVariants.{Pass}
use Rattle.hep_code.specs.declared.instruction.Operation.{Operation}
use Rattle.hep_code.specs.declared.instruction.Operation.TheVariants.{Call, Create, Refer}
use Rattle.hep_code.specs.Words.{AddressedUnit, Stands, argument_of_actual, operands_of_actual, operands_of_entries, table_of}
use Rattle.hep_image.specs.Places.{variable_of}
use Rattle.hep_step.specs.declared.call_kind.CallKind.{CallKind}
use Rattle.hep_step.specs.declared.call_kind.CallKind.TheVariants.{Calls, Creates, Refers}
use Rattle.hep_step.specs.Simulation.{addressed_on_top}

-- ---- by each way

-- the operation in the code
abbrev pub making : CallKind → ℕ → ℕ → ℕ → Operation
making Calls u count next = Call u count next
making Creates u count next = Create u count next
making Refers u count next = Refer u count

-- what comes next in the source machine
abbrev pub comes_by : CallKind → Name → List Actual → Next
comes_by Calls x actuals = does (calling x actuals)
comes_by Creates x actuals = does (creating x actuals)
comes_by Refers x actuals = wants (referring x actuals)

-- the unit of that name
abbrev pub unit_by : CallKind → Units → Name → ℕ
unit_by Calls program x = unit_called program x
unit_by Creates program x = unit_called program x
unit_by Refers program x = function_unit program x

-- the activation is a process of its own
abbrev pub is_creation : CallKind → Bool
is_creation Calls = false
is_creation Creates = true
is_creation Refers = false

-- the index at which the activation goes on: CALL and CREATE name it, and that of a reference is after its entries
abbrev pub IsBehindEntries : CallKind → ℕ → ℕ → ℕ → Type 0
IsBehindEntries Calls index count next = Unit {0}
IsBehindEntries Creates index count next = Unit {0}
IsBehindEntries Refers index count next = next ≡ (index + 1) + count

-- how an activation at this level goes on, with these operands before those that are passed: with none, at the index
-- after its CALL or CREATE; or with the value of the function after them
abbrev pub GoesOn : CallKind → AddressedUnit → Level → List Value → ℕ → Type 0
GoesOn Calls addressed level before next = (next ≡ ((table_of addressed).flows level.statement).next) × (before ≡ [])
GoesOn Creates addressed level before next = (next ≡ ((table_of addressed).flows level.statement).next) × (before ≡ [])
GoesOn Refers addressed level before next = (v : Value) → Stands addressed level.statement (plug_work addressed.unit level.work v) (before ++ v ∷ []) next

-- ---- what is passed

-- the operands that the first `count` entries pass, which are the last ones
abbrev pub last_operands : ℕ → List Instruction → List Value → List Value
last_operands count entries operands = drop (length operands - operands_of_entries (take count entries)) operands

-- the source machine calls, creates or refers to unit u with `count` actual arguments, which the last operands and
-- the entries after the operation pass, and the activation goes on at an index
pub record IsCallAhead (way : CallKind) (program : Units) (t : Top) (operands : List Value) (u count next : ℕ) (behind : List Instruction) : Type 0 where
  pub name : Name
  pub actuals : List Actual
  pub does_so : next_of (unit_on_top program t) t.level.work ≡ comes_by way name actuals
  pub unit : u ≡ unit_by way program name
  pub counted : count ≡ length actuals
  pub before : List Value
  pub operands_are : operands ≡ before ++ flat_map operands_of_actual actuals
  pub onward : GoesOn way (addressed_on_top program t) t.level before next
  pub more : List Instruction
  pub entries : behind ≡ map (λ a. Pass (argument_of_actual (variable_of program (unit_on_top program t)) a)) actuals ++ more
