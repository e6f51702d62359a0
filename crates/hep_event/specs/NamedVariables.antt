-- The variable that comes next of a process, in the source and in the code: docs/RUNS.md, "What each step did".
use Rattle.std.specs.Prelude.{◌≡◌, ◌-◌, List, [], drop, length, Option, Some, None}
use Rattle.hep_code.specs.declared.instruction.Evaluation.TheVariants.{Load, Test}
use Rattle.hep_code.specs.declared.instruction.Operation.{Operation}
use Rattle.hep_code.specs.declared.instruction.Operation.TheVariants.{Evaluate, Store, EnterLoop, EndLoop, Answer}
use Rattle.hep_code.specs.declared.variable.Variable.{Variable}
use Rattle.hep_machine.specs.Evaluation.{reading}
use Rattle.hep_machine.specs.Words.{Name, Next, Reference, Statement, Value, assigning, does, ending_loop, entering_loop, evaluating, function_name, leaving, testing, variable_of, wants}
use Rattle.hep_step.specs.Effects.{subscripts_in}

-- ---- in the source

-- a function ends with the value of the variable that has its name
abbrev pub IsResultOf : List Statement → Reference → Type 0
IsResultOf unit x = (y : Name) × (function_name unit ≡ Some y) × (x ≡ (y, []))

-- what comes next names this variable or element: it accesses it, or it is the variable of a DO, or a function's result
abbrev pub IsNamed : List Statement → Next → Reference → Type 0
IsNamed unit (wants (evaluating (reading r))) x = x ≡ r
IsNamed unit (wants (evaluating (testing f r))) x = x ≡ r
IsNamed unit (does (assigning r v)) x = x ≡ r
IsNamed unit (does (entering_loop y m n k)) x = x ≡ (y, [])
IsNamed unit (does (ending_loop d)) x = x ≡ (variable_of unit d, [])
IsNamed unit (does leaving) x = IsResultOf unit x
IsNamed unit _ x = ⊥

-- ---- in the code

-- the variable that an operation with these operands names, and the subscripts of its element
abbrev pub named_by : Operation → List Value → Option (Variable × List Value)
named_by (Evaluate (Load x n)) vs = Some (x, drop (length vs - n) vs)
named_by (Evaluate (Test f x n)) vs = Some (x, drop (length vs - n) vs)
named_by (Store x n next) vs = Some (x, subscripts_in vs)
named_by (EnterLoop x cells inside behind) vs = Some (x, [])
named_by (EndLoop x cells inside behind) vs = Some (x, [])
named_by (Answer x) vs = Some (x, [])
named_by _ vs = None
