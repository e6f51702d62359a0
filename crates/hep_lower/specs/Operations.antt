-- The lists that operations count, and the entries for them after an operation.
use Rattle.std.specs.Prelude.{ℕ, List, [], ◌∷◌, Option, Some, None, map, length}
use Rattle.hep_machine.specs.Words.{Form}
use Rattle.hep_source.specs.declared.statement.Form.TheVariants as form
use Rattle.hep_code.specs.declared.instruction.Instruction.{Instruction}
use Rattle.hep_code.specs.declared.instruction.Instruction.TheVariants.{Step, To, Pass, Show}
use Rattle.hep_code.specs.declared.instruction.Operation.{Operation}
use Rattle.hep_code.specs.Words.{argument_of, argument_of_target, printed_of, NameTable, Table}
use Rattle.hep_lower.specs.ArgumentLimits.{subscripts_of_all}

-- subscripts, labels, actual arguments, targets of PURGE or items of PRINT
abbrev pub list_length : Form → ℕ
list_length (form.Assign x t) = length x.subscripts
list_length (form.ComputedGoTo labels t) = length labels
list_length (form.Call p ts) = length ts
list_length (form.Create p ts) = length ts
list_length (form.Purge targets) = length targets
list_length (form.Print items) = length items
list_length _ = 0

abbrev pub list_code : Table → Form → List Instruction
list_code table (form.ComputedGoTo labels t) = map (λ l. To (table.labels l)) labels
list_code table (form.Call p ts) = map (λ t. Pass (argument_of table.names t)) ts
list_code table (form.Create p ts) = map (λ t. Pass (argument_of table.names t)) ts
list_code table (form.Purge targets) = map (λ t. Pass (argument_of_target table.names t)) targets
list_code table (form.Print items) = map (λ i. Show (printed_of i)) items
list_code table _ = []

-- the number of subscripts of what is passed or purged
abbrev pub list_subscripts : NameTable → Form → ℕ
list_subscripts names (form.Call p ts) = subscripts_of_all (argument_of names) ts
list_subscripts names (form.Create p ts) = subscripts_of_all (argument_of names) ts
list_subscripts names (form.Purge targets) = subscripts_of_all (argument_of_target names) targets
list_subscripts names _ = 0

-- an operation with its line, if there is one
abbrev pub step_if_any : Option (ℕ × Operation) → List Instruction
step_if_any None = []
step_if_any (Some x) = Step x.0 x.1 ∷ []
