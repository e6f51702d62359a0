-- A value that a statement gets takes one of its operations away.
use Rattle.std.proofs.Common.{◌≡◌, ℕ, suc, List, [], ◌∷◌, ◌++◌, map, refl, sym, ap, ◌∙◌, subst, append-nil}
use Rattle.hep_code.proofs.Expressions.{FirstIs, sought_code}
use Rattle.hep_code.proofs.ControlFlow.{NextIs, work_is}
use Rattle.hep_code.specs.declared.instruction.Instruction.{Instruction}
use Rattle.hep_code.specs.declared.instruction.Instruction.TheVariants.{Pass}
use Rattle.hep_code.specs.declared.instruction.Argument.{Argument}
use Rattle.hep_code.specs.declared.variable.Variable.TheVariants.{Absent}
use Rattle.hep_code.specs.Words.{AddressedUnit, operands_of_sought, argument_of_actual, work_code}
use Rattle.hep_machine.specs.Words.{Statement, RedexOrReference, evaluating, referring, Next, wants, Value, Work, line_at, next_of, plug_work}
use Rattle.hep_cover.specs.RemainingOperations.{operations_ahead}
use Rattle.hep_cover.specs.OperationCounts.{left_of}
use Rattle.hep_cover.proofs.StatementCode.{values-passed, work-ahead}

-- a unit whose variables are nowhere: how many operations there are says nothing of where they are
abbrev nowhere : List Statement → AddressedUnit
nowhere unit = record { unit = unit; variables = λ x. Absent; cells = λ d. 0; subroutines = λ x. 0; functions = λ x. 0 }

arguments-passed : {T : Type 0} (f : T → Argument) (ts : List T) (code : List Instruction)
    → operations_ahead (map (λ t. Pass (f t)) ts ++ code) ≡ operations_ahead code
arguments-passed f [] code = refl
arguments-passed f (t ∷ ts) code = arguments-passed f ts code

module _ (addressed : AddressedUnit) where
  sought-ahead : (line : ℕ) (r : RedexOrReference) (code : List Instruction)
      → operations_ahead (sought_code addressed line r ++ code) ≡ suc (operations_ahead code)
  sought-ahead line (evaluating q) code = refl
  sought-ahead line (referring x actuals) code = ap suc (arguments-passed (argument_of_actual addressed.variables) actuals code)

  its-own : (k : ℕ) (work : Work) → operations_ahead (work_code addressed k work) ≡ left_of addressed.unit work
  its-own k work = ap operations_ahead (sym (append-nil (work_code addressed k work))) ∙ work-ahead addressed k work []

  taken-in : (k : ℕ) (work : Work) (r : RedexOrReference) (v : Value) → next_of addressed.unit work ≡ wants r
      → suc (left_of addressed.unit (plug_work addressed.unit work v)) ≡ left_of addressed.unit work
  taken-in k work r v e =
      let line = line_at addressed.unit k in
      let first : FirstIs addressed line r (work_code addressed k work) (λ x. work_code addressed k (plug_work addressed.unit work x)) =
      subst
      (λ (n : Next). NextIs addressed line k n (work_code addressed k work) (λ x. work_code addressed k (plug_work addressed.unit work x)))
      e (work_is addressed k work) in
      ap suc
      (sym (its-own k (plug_work addressed.unit work v)) ∙ ap operations_ahead (first.filled v) ∙ values-passed (first.before ++ v ∷ []) first.rest)
      ∙ sym (sought-ahead line r first.rest)
      ∙ sym (values-passed (first.before ++ operands_of_sought r) (sought_code addressed line r ++ first.rest))
      ∙ ap operations_ahead (sym first.is)
      ∙ its-own k work

pub taken : (unit : List Statement) (work : Work) (r : RedexOrReference) (v : Value) → next_of unit work ≡ wants r
    → suc (left_of unit (plug_work unit work v)) ≡ left_of unit work
taken unit work r v e = taken-in (nowhere unit) 0 work r v e
