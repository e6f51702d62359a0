-- Lists of a statement are no longer than its code.
use Rattle.std.proofs.Common.{◌≡◌, ℕ, ◌+◌, ◌≤◌, List, [], ◌∷◌, length, arith, length-append}
use Rattle.std.proofs.lemmas.List.{length-map}
use Rattle.hep_machine.specs.Words.{Tree, trees_of, Target, Form}
use Rattle.hep_source.specs.declared.statement.Form.TheVariants as form
use Rattle.hep_code.specs.declared.instruction.Instruction.TheVariants.{To, Pass, Show}
use Rattle.hep_code.specs.Words.{tree_code, actual_code, actuals_code, argument_of, target_code, targets_code, argument_of_target, printed_of, operands_code, operation_code, form_code, NameTable, Table}
use Rattle.hep_lower.specs.ArgumentLimits.{subscripts_of_all}
use Rattle.hep_lower.specs.Operations.{list_length, list_subscripts}
use Rattle.hep_lower.proofs.ActualCode.{actual_long}
use Rattle.hep_lower.proofs.CodeLengths.{count_long, trees_long}

module _ (names : NameTable) (line : ℕ) where
  pub actuals_long : (ts : List Tree) → subscripts_of_all (argument_of names) ts ≤ length (actuals_code names line ts)
  actuals_long [] = omega arith
  actuals_long (t ∷ ts) = omega (arith, actual_long names line t, actuals_long ts, length-append (actual_code names line t) (actuals_code names line ts))

  pub targets_long : (ts : List Target) → subscripts_of_all (argument_of_target names) ts ≤ length (targets_code names line ts)
  targets_long [] = omega arith
  targets_long (t ∷ ts) =
      omega (arith, count_long names line (trees_of t.subscripts), targets_long ts, length-append (target_code names line t) (targets_code names line ts))

module _ (table : Table) (line k : ℕ) where
  form_long : (f : Form) → length (form_code table line k f) ≡ length (operands_code table line f) + length (operation_code table line k f)
  form_long f = length-append (operands_code table line f) (operation_code table line k f)

  -- the list of a form is no longer than its code, nor are there more subscripts in it
  abbrev IsLong : Form → Type 0
  IsLong f = (list_length f ≤ length (form_code table line k f)) × (list_subscripts table.names f ≤ length (form_code table line k f))

  bare : (n : ℕ) → (0 ≤ n) × (0 ≤ n)
  bare n = (omega arith, omega arith)

  pub form_lists : (f : Form) → IsLong f
  form_lists (form.Assign x t) =
      (omega (arith, form_long (form.Assign x t), trees_long table.names line x.subscripts, length-append (tree_code table.names line t) (target_code table.names line x)), omega arith)
  form_lists (form.ComputedGoTo labels t) = (omega (arith, form_long (form.ComputedGoTo labels t), length-map labels (λ l. To (table.labels l))), omega arith)
  form_lists (form.Call p ts) =
      let long = form_long (form.Call p ts) in
      (omega (arith, long, length-map ts (λ t. Pass (argument_of table.names t))), omega (arith, long, actuals_long table.names line ts))
  form_lists (form.Create p ts) =
      let long = form_long (form.Create p ts) in
      (omega (arith, long, length-map ts (λ t. Pass (argument_of table.names t))), omega (arith, long, actuals_long table.names line ts))
  form_lists (form.Purge ts) =
      let long = form_long (form.Purge ts) in
      (omega (arith, long, length-map ts (λ t. Pass (argument_of_target table.names t))), omega (arith, long, targets_long table.names line ts))
  form_lists (form.Print items) = (omega (arith, form_long (form.Print items), length-map items (λ i. Show (printed_of i))), omega arith)
  form_lists (form.Program p) = bare _
  form_lists (form.Subroutine p ps) = bare _
  form_lists (form.Function t p ps) = bare _
  form_lists (form.Implicit gs) = bare _
  form_lists (form.Declare t ds) = bare _
  form_lists (form.Dimension ds) = bare _
  form_lists (form.Common bs) = bare _
  form_lists (form.Parameter cs) = bare _
  form_lists (form.Data gs) = bare _
  form_lists (form.GoTo l) = bare _
  form_lists (form.ArithmeticIf t ls) = bare _
  form_lists (form.IfThen t) = bare _
  form_lists (form.ElseIf t) = bare _
  form_lists form.Else = bare _
  form_lists form.EndIf = bare _
  form_lists (form.Do c) = bare _
  form_lists form.Continue = bare _
  form_lists form.Return = bare _
  form_lists form.Resume = bare _
  form_lists form.Stop = bare _
  form_lists form.End = bare _
