-- What has to be seen of a step is so, where what comes next was seen before it.
use Rattle.std.proofs.Common.{◌≡◌, ℕ, List, [], refl, sym, ap, ◌∙◌, subst}
use Rattle.std.specs.Option.{option_map}
use Rattle.hep_code.specs.declared.instruction.Instruction.{Instruction}
use Rattle.hep_code.specs.declared.instruction.Operation.{Operation}
use Rattle.hep_code.specs.declared.instruction.Operation.TheVariants.{Answer}
use Rattle.hep_code.specs.declared.variable.Variable.{Variable}
use Rattle.hep_code.specs.Words.{AddressedUnit, ending_of, is_asynchronous, IsAction, IsNext}
use Rattle.hep_image.specs.Places.{variable_of}
use Rattle.hep_machine.specs.Evaluation.{reading}
use Rattle.hep_machine.specs.Words.{Action, Name, Next, Redex, Reference, State, Statement, Top, Units, Value, next_of, spelling, unit_of, unit_on_top, wants, does, evaluating, referring, variable_of as loop_variable, testing, assigning, jumping, entering_loop, ending_loop, calling, creating, purging, printing, continuing, leaving}
use Rattle.hep_event.specs.NamedVariables.{IsNamed}
use Rattle.hep_step.specs.Simulation.{unit_addressed}
use Rattle.hep_event.specs.StepTexts.{place_of}
use Rattle.hep_event.specs.declared.operation_text.StepObservation.{StepObservation}
use Rattle.hep_event.specs.PlainTexts.{IsNameOfCalled}
use Rattle.hep_event.specs.StepObservations.{IsActionSeen, IsNextSeen, IsRedexSeen, IsReferenceSeen, IsSeen, numbers_before}
use Rattle.hep_trace.specs.declared.observation.BeforeTurn.{BeforeTurn}
use Rattle.hep_trace.specs.Observations.{IsListAhead, IsListSeen, IsSeenWith, IsValueAhead, IsValueSeen, name_referred, place_referred}

-- of an activation on top of a process, with what was seen before its step and after it
module _ (program : Units) (t : Top) (operands : List Value) (index : ℕ) (o : Operation) (behind : List Instruction) (b : BeforeTurn) (after : State) (seen : StepObservation)
    (same : b.operation ≡ o) (h : IsSeenWith program t b after seen)
    (referred : (x : Reference) → IsNamed (unit_on_top program t) (next_of (unit_on_top program t) t.level.work) x
    → (name_referred program b.reference ≡ spelling x.0) × (place_referred b.reference ≡ place_of program t x))
    (asynchronous : (x : Reference) → IsNamed (unit_on_top program t) (next_of (unit_on_top program t) t.level.work) x
    → is_asynchronous (variable_of program (unit_on_top program t) x.0) ≡ x.0.asynchronous)
    (value : IsValueAhead program t b.value) (list : IsListAhead program t b.list.items) where
  abbrev addressed : AddressedUnit
  addressed = unit_addressed program (unit_of t.state t.level.activation)

  abbrev unit : List Statement
  unit = unit_on_top program t

  abbrev variables : Name → Variable
  variables = variable_of program unit

  abbrev next : Next
  next = next_of unit t.level.work

  abbrev IsAt : Next → Type 0
  IsAt n = IsNext addressed t.level.statement t.level.work operands index n o behind

  -- ---- by the operation

  value-of : (p : Operation) → o ≡ p → IsValueSeen program t b after seen.value p
  value-of p e = subst (IsValueSeen program t b after seen.value) (same ∙ e) h.value

  list-of : (p : Operation) → o ≡ p → IsListSeen program t b seen.list.now p
  list-of p e = subst (IsListSeen program t b seen.list.now) (same ∙ e) h.list

  called-of : (p : Operation) → o ≡ p → IsNameOfCalled program p seen.called.now
  called-of p e = subst (λ q. IsNameOfCalled program q seen.called.now) (same ∙ e) h.called

  -- ---- what is named

  reference-seen : (x : Reference) → IsNamed unit next x → IsReferenceSeen program t variables after seen x
  reference-seen x named = record {
    name = h.variable_is ∙ (referred x named).0;
    asynchronous = asynchronous x named;
    place = h.place_is ∙ (referred x named).1;
  }

  named-at : (n : Next) (x : Reference) → next ≡ n → IsNamed unit n x → IsNamed unit next x
  named-at n x e named = subst (λ m. IsNamed unit m x) (sym e) named

  name-seen : (n : Next) (x : Reference) → next ≡ n → IsNamed unit n x → seen.variable.now ≡ spelling x.0
  name-seen n x e named = h.variable_is ∙ (referred x (named-at n x e named)).0

  -- ---- by what comes next

  redex-seen : (r : Redex) → next ≡ wants (evaluating r) → IsAt (wants (evaluating r)) → IsRedexSeen program t variables after seen r
  redex-seen (reading r) e is = (reference-seen r (named-at _ r e refl), value-of _ is.operation ∙ value.redex (reading r) e)
  redex-seen (testing f r) e is = (reference-seen r (named-at _ r e refl), value-of _ is.operation ∙ value.redex (testing f r) e)
  redex-seen _ e is = tt

  action-seen : (a : Action) → next ≡ does a → IsAction addressed t.level.statement t.level.work operands index a o behind → IsActionSeen program t variables after seen a
  action-seen (assigning r v) e is = reference-seen r (named-at _ r e refl)
  action-seen (jumping l) e is = h.line
  action-seen (entering_loop x m n k) e is = name-seen _ (x, []) e refl
  action-seen (ending_loop d) e is = (name-seen _ (loop_variable unit d, []) e refl, value-of _ is.operation d e)
  action-seen (calling x actuals) e is = called-of _ is.operation
  action-seen (creating x actuals) e is = called-of _ is.operation
  action-seen (purging targets) e is = list-of _ is.operation ∙ list targets e
  action-seen (printing items) e is = list-of _ is.operation items e
  action-seen continuing e is = h.line
  action-seen leaving e is = λ x named. (
    h.unit,
    value-of (Answer (variables x)) (is.operation ∙ ap (λ f. ending_of (option_map variables f)) named) ∙ value.result x e named,
  )
  action-seen _ e is = tt

  next-seen : (n : Next) → next ≡ n → IsAt n → IsNextSeen program t variables after seen n
  next-seen (wants (evaluating r)) e is = redex-seen r e is
  next-seen (wants (referring x actuals)) e is = called-of _ is.operation
  next-seen (does a) e is = action-seen a e is

  pub is-seen : b.numbers ≡ numbers_before t → IsAt next → IsSeen program t variables after seen next
  is-seen numbered is = record { numbers = h.numbers ∙ numbered; is_so = next-seen next refl is }
