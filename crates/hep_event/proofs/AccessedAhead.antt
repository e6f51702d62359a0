-- The operation that stands ahead names the variable that what comes next accesses, which has storage units.
use Rattle.std.proofs.Common.{◌≡◌, ◌≢◌, ℕ, ◌-◌, List, ◌++◌, drop, length, Option, Some, refl, sym, ap, ◌∙◌}
use Rattle.std.proofs.Math.Seq.{drop-append_seam}
use Rattle.std.proofs.lemmas.Option.{none-some, same_Some}
use Rattle.hep_accepted_laws.specs.Instructions.{variables_in_operation}
use Rattle.hep_accepted_laws.specs.PlacedCode.{ArePlaced}
use Rattle.hep_code.specs.declared.instruction.Evaluation.TheVariants.{Load, Test}
use Rattle.hep_code.specs.declared.instruction.Instruction.{Instruction}
use Rattle.hep_code.specs.declared.instruction.Operation.{Operation}
use Rattle.hep_code.specs.declared.instruction.Operation.TheVariants.{Evaluate, Store, EnterLoop, EndLoop, Answer}
use Rattle.hep_code.specs.declared.variable.Variable.{Variable}
use Rattle.hep_code.specs.declared.variable.Variable.TheVariants.{Absent}
use Rattle.hep_code.specs.Words.{AddressedUnit, IsNext, evaluation_of}
use Rattle.hep_event.specs.NextAccesses.{IsAccessed}
use Rattle.hep_image.specs.Places.{variable_of}
use Rattle.hep_machine.specs.Evaluation.{reading}
use Rattle.hep_machine.specs.Words.{Next, Reference, Statement, Units, Value, Work, assigning, does, evaluating, testing, wants}
use Rattle.hep_step.specs.Effects.{subscripts_in}
use Rattle.hep_step.proofs.ReplySteps.{in_front}
use Rattle.hep_event.specs.NamedVariables.{named_by}
use Rattle.hep_event.specs.Sites.{IsVariableOf}

module _ (addressed : AddressedUnit) (k : ℕ) (work : Work) (operands : List Value) (index : ℕ) (o : Operation) (behind : List Instruction) where
  -- what an operation has of its own is the last operands
  last-ones : (before vs : List Value) → length operands - length vs ≡ length before → operands ≡ before ++ vs → drop (length operands - length vs) operands ≡ vs
  last-ones before vs front is = ap (λ n. drop n operands) front ∙ ap (drop (length before)) is ∙ drop-append_seam before vs

  pub names-accessed : (n : Next) (x : Reference) → IsNext addressed k work operands index n o behind → IsAccessed n x → named_by o operands ≡ Some (addressed.variables x.0, x.1)
  names-accessed (wants (evaluating (reading y))) x is same =
      let front = in_front (evaluation_of addressed.variables (reading y)) operands is.before y.1 refl is.operands_are in
      ap (λ q. named_by q operands) is.operation
      ∙ ap (λ vs. Some (addressed.variables y.0, vs)) (last-ones is.before y.1 front is.operands_are)
      ∙ ap (λ (r : Reference). Some (addressed.variables r.0, r.1)) (sym same)
  names-accessed (wants (evaluating (testing f y))) x is same =
      let front = in_front (evaluation_of addressed.variables (testing f y)) operands is.before y.1 refl is.operands_are in
      ap (λ q. named_by q operands) is.operation
      ∙ ap (λ vs. Some (addressed.variables y.0, vs)) (last-ones is.before y.1 front is.operands_are)
      ∙ ap (λ (r : Reference). Some (addressed.variables r.0, r.1)) (sym same)
  names-accessed (does (assigning y v)) x is same =
      ap (λ q. named_by q operands) is.operation
      ∙ ap (λ vs. Some (addressed.variables y.0, subscripts_in vs)) is.operands_are
      ∙ ap (λ (r : Reference). Some (addressed.variables r.0, r.1)) (sym same)
  names-accessed _ x is h = absurd h

-- what an operation names has storage units, where all that it names have
pub named-placed : (o : Operation) (operands : List Value) (v : Variable) (vs : List Value) → ArePlaced (variables_in_operation o) → named_by o operands ≡ Some (v, vs) → v ≢ Absent
named-placed o operands v vs placed named = by o placed named
  where
    is-first : (x : Variable) (us : List Value) → ◌≡◌ {A = Option (Variable × List Value)} (Some (x, us)) (Some (v, vs)) → x ≢ Absent → v ≢ Absent
    is-first x us e there absent = there (ap (λ (z : Variable × List Value). z.0) (same_Some (x, us) (v, vs) e) ∙ absent)

    by : (o : Operation) → ArePlaced (variables_in_operation o) → named_by o operands ≡ Some (v, vs) → v ≢ Absent
    by (Evaluate (Load x n)) h e = is-first x _ e (h 0 x refl)
    by (Evaluate (Test f x n)) h e = is-first x _ e (h 0 x refl)
    by (Store x n next) h e = is-first x _ e (h 0 x refl)
    by (EnterLoop x cells inside behind) h e = is-first x _ e (h 0 x refl)
    by (EndLoop x cells inside behind) h e = is-first x _ e (h 0 x refl)
    by (Answer x) h e = is-first x _ e (h 0 x refl)
    by _ h e = absurd (none-some (v, vs) e)

-- ---- what an operation names

-- a variable and subscripts that are those of a reference
pub record IsNamedSo (program : Units) (unit : List Statement) (x : Reference) (v : Variable) (vs : List Value) : Type 0 where
  pub variable : IsVariableOf program unit x.0 v
  pub subscripts : vs ≡ x.1

pub is-named : (program : Units) (unit : List Statement) (x : Reference) (v : Variable) (vs : List Value) → ◌≡◌ {A = Option (Variable × List Value)} (Some (v, vs)) (Some (variable_of program unit x.0, x.1)) → variable_of program unit x.0 ≢ Absent → IsNamedSo program unit x v vs
is-named program unit x v vs e placed =
    let same : ◌≡◌ {A = Variable × List Value} (v, vs) (variable_of program unit x.0, x.1) = same_Some (v, vs) (variable_of program unit x.0, x.1) e in
    let variable : v ≡ variable_of program unit x.0 = ap (λ (z : Variable × List Value). z.0) same in
    record { variable = (sym variable, λ absent. placed (sym variable ∙ absent)); subscripts = ap (λ (z : Variable × List Value). z.1) same }
