-- What the entries after an operation pass, with its operands: X3.9-1978, 12.8.2 and 15.9.2.
use Rattle.std.specs.Prelude.{ℕ, zero, suc, List, [], ◌∷◌, take, drop}
use Rattle.hep_machine.specs.Words.{Name, Value, Actual, evaluated, referred, Reference, item_of}
use Rattle.hep_machine.specs.declared.record.Item.{Item}
use Rattle.hep_machine.specs.declared.record.Item.TheVariants.{Text}
use Rattle.hep_code.specs.declared.instruction.Argument.TheVariants.{Evaluated, Referred}
use Rattle.hep_code.specs.declared.instruction.Instruction.{Instruction}
use Rattle.hep_code.specs.declared.instruction.Instruction.TheVariants.{Pass, Show}
use Rattle.hep_code.specs.declared.instruction.Printed.TheVariants.{Operand, Characters}
use Rattle.hep_code.specs.declared.variable.Variable.{Variable}

-- ---- actual arguments, and what is purged

-- the value of an expression, or a variable, an array or an element with the values of its subscripts
pub data PassedArgument : Type 0 where
  by_value : (v : Value) → PassedArgument
  by_reference : (variable : Variable) (subscripts : List Value) → PassedArgument

-- the first n of them, from the entries and the operands
abbrev pub passed_from : ℕ → List Instruction → List Value → List PassedArgument
passed_from zero entries vs = []
passed_from (suc n) (Pass Evaluated ∷ entries) (v ∷ vs) = by_value v ∷ passed_from n entries vs
passed_from (suc n) (Pass (Referred x m) ∷ entries) vs = by_reference x (take m vs) ∷ passed_from n entries (drop m vs)
passed_from (suc n) _ _ = []

abbrev pub passed_reference : (Name → Variable) → Reference → PassedArgument
passed_reference variables r = by_reference (variables r.0) r.1

abbrev pub passed_actual : (Name → Variable) → Actual → PassedArgument
passed_actual variables (evaluated v) = by_value v
passed_actual variables (referred r) = passed_reference variables r

-- ---- items of a PRINT

-- the first n of them, from the entries and the operands
abbrev pub items_from : ℕ → List Instruction → List Value → List Item
items_from zero entries vs = []
items_from (suc n) (Show Operand ∷ entries) (v ∷ vs) = item_of v ∷ items_from n entries vs
items_from (suc n) (Show (Characters cs) ∷ entries) vs = Text cs ∷ items_from n entries vs
items_from (suc n) _ _ = []
