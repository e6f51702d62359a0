-- What stands ahead in the code, and what comes next in the source.
use Rattle.std.proofs.Common.{◌≡◌, ◌≢◌, ℕ, true, false, List, [], ◌∷◌, length, Option, Some, None, refl, sym, ap, ◌∙◌, subst}
use Rattle.std.specs.Option.{option_map}
use Rattle.std.proofs.lemmas.Bool.{false≢true}
use Rattle.hep_code.specs.declared.instruction.Instruction.{Instruction}
use Rattle.hep_code.specs.declared.instruction.Operation.{Operation}
use Rattle.hep_code.specs.declared.instruction.Operation.TheVariants.{Answer, Evaluate, Purge}
use Rattle.hep_code.specs.declared.variable.Variable.{Variable}
use Rattle.hep_code.specs.declared.variable.Variable.TheVariants.{Absent}
use Rattle.hep_code.specs.Words.{AddressedUnit, ending_of, evaluation_of, operation_of, IsAction, IsNext}
use Rattle.hep_image.specs.Places.{variable_of}
use Rattle.hep_machine.specs.Evaluation.{reading}
use Rattle.hep_machine.specs.Words.{Action, Name, Next, Redex, Reference, Statement, Top, Units, Value, function_name, next_of, unit_of, unit_on_top, wants, does, evaluating, referring, variable_of as loop_variable, testing, assigning, entering_loop, ending_loop, purging, leaving}
use Rattle.hep_event.specs.NamedVariables.{IsNamed}
use Rattle.hep_step.specs.Simulation.{unit_addressed}
use Rattle.hep_event.specs.AccessedNames.{references_of}
use Rattle.hep_trace.specs.Observations.{IsLoopAhead, is_access}

-- of an activation on top of a process, with the operation ahead, its operands, and what stands behind it
module _ (program : Units) (t : Top) (operands : List Value) (index : ℕ) (o : Operation) (behind : List Instruction) where
  abbrev addressed : AddressedUnit
  addressed = unit_addressed program (unit_of t.state t.level.activation)

  abbrev unit : List Statement
  unit = unit_on_top program t

  abbrev variables : Name → Variable
  variables = variable_of program unit

  abbrev IsAt : Next → Type 0
  IsAt n = IsNext addressed t.level.statement t.level.work operands index n o behind

  abbrev Acts : Action → Type 0
  Acts a = IsAction addressed t.level.statement t.level.work operands index a o behind

  -- the operation of the end of an activation
  ends : (is : Acts leaving) (f : Option Name) → function_name unit ≡ f → o ≡ ending_of (option_map variables f)
  ends is f named = is.operation ∙ ap (λ f. ending_of (option_map variables f)) named

  -- the end of a function
  pub answers : (n : Next) → IsAt n → n ≡ does leaving → (x : Name) → function_name unit ≡ Some x → o ≡ Answer (variables x)
  answers n is e x named = ends (subst IsAt e is) (Some x) named

  -- a redex is evaluated
  pub evaluates : (n : Next) → IsAt n → (q : Redex) → n ≡ wants (evaluating q) → o ≡ Evaluate (evaluation_of variables q)
  evaluates n is q e =
      let at : IsAt (wants (evaluating q)) = subst IsAt e is in
      at.operation

  -- and a PURGE is one
  pub purges : (n : Next) → IsAt n → (targets : List Reference) → n ≡ does (purging targets) → (next : ℕ) × (o ≡ Purge (length targets) next)
  purges n is targets e =
      let at : IsAt (does (purging targets)) = subst IsAt e is in
      (_, at.operation)

  -- ---- a PURGE

  abbrev IsPurging : ℕ → Next → Type 0
  IsPurging count n = (targets : List Reference) × (n ≡ does (purging targets)) × (count ≡ length targets)

  module _ (count next : ℕ) (purges : o ≡ Purge count next) where
    purge-end : (f : Option Name) → o ≡ ending_of (option_map variables f) → ⊥
    purge-end None e = cc
    purge-end (Some x) e = cc

    purge-action : (a : Action) → Acts a → IsPurging count (does a)
    purge-action (purging targets) is =
        let same : Purge count next ≡ operation_of addressed t.level.statement (purging targets) = sym purges ∙ is.operation in
        let counted : count ≡ length targets = cc in
        (targets, refl, counted)
    purge-action leaving is = absurd (purge-end (function_name unit) (ends is (function_name unit) refl))
    purge-action _ is = let same = sym purges ∙ is.operation in absurd (cc)

    pub purged : (n : Next) → IsAt n → IsPurging count n
    purged (wants (evaluating r)) is = let same = sym purges ∙ is.operation in absurd (cc)
    purged (wants (referring x actuals)) is = let same = sym purges ∙ is.operation in absurd (cc)
    purged (does a) is = purge-action a is

  -- ---- an access

  abbrev IsAccessing : Next → Type 0
  IsAccessing n = (x : Reference) × IsNamed unit n x × (references_of program t n ≡ x ∷ [])

  end-none : (f : Option Name) → is_access (ending_of (option_map variables f)) ≡ false
  end-none None = refl
  end-none (Some x) = refl

  -- no other operation is one
  no-access : {P : Type 0} (p : Operation) → o ≡ p → is_access p ≡ false → is_access o ≡ true → P
  no-access p e none some = absurd (false≢true (sym none ∙ ap is_access (sym e) ∙ some))

  access-action : is_access o ≡ true → (a : Action) → Acts a → IsAccessing (does a)
  access-action some (assigning r v) is = (r, refl, refl)
  access-action some (entering_loop x m n k) is = ((x, []), refl, refl)
  access-action some (ending_loop d) is = ((loop_variable unit d, []), refl, refl)
  access-action some leaving is = no-access _ (ends is (function_name unit) refl) (end-none (function_name unit)) some
  access-action some _ is = no-access _ is.operation refl some

  access-redex : is_access o ≡ true → (r : Redex) → IsAt (wants (evaluating r)) → IsAccessing (wants (evaluating r))
  access-redex some (reading r) is = (r, refl, refl)
  access-redex some (testing f r) is = (r, refl, refl)
  access-redex some _ is = no-access _ is.operation refl some

  pub accesses : is_access o ≡ true → (n : Next) → IsAt n → IsAccessing n
  accesses some (wants (evaluating r)) is = access-redex some r is
  accesses some (wants (referring x actuals)) is = no-access _ is.operation refl some
  accesses some (does a) is = access-action some a is

  -- nothing else has references, but for a PURGE
  an-access : {P : Type 0} (p : Operation) → o ≡ p → is_access p ≡ true → is_access o ≡ false → P
  an-access p e some none = absurd (false≢true (sym none ∙ ap is_access e ∙ some))

  module _ (none : is_access o ≡ false) (other : (count next : ℕ) → o ≢ Purge count next) where
    quiet-action : (a : Action) → Acts a → references_of program t (does a) ≡ []
    quiet-action (assigning r v) is = an-access _ is.operation refl none
    quiet-action (entering_loop x m n k) is = an-access _ is.operation refl none
    quiet-action (ending_loop d) is = an-access _ is.operation refl none
    quiet-action (purging targets) is = absurd (other _ _ is.operation)
    quiet-action _ is = refl

    quiet-redex : (r : Redex) → IsAt (wants (evaluating r)) → references_of program t (wants (evaluating r)) ≡ []
    quiet-redex (reading r) is = an-access _ is.operation refl none
    quiet-redex (testing f r) is = an-access _ is.operation refl none
    quiet-redex _ is = refl

    pub quiet : (n : Next) → IsAt n → references_of program t n ≡ []
    quiet (wants (evaluating r)) is = quiet-redex r is
    quiet (wants (referring x actuals)) is = refl
    quiet (does a) is = quiet-action a is

  -- ---- the end of an iteration of a DO

  module _ (placed : (x : Reference) → IsNamed unit (next_of unit t.level.work) x → variables x.0 ≢ Absent) where
    at : (p : Operation) → o ≡ p → IsLoopAhead program t p → IsLoopAhead program t o
    at p e h = subst (IsLoopAhead program t) (sym e) h

    end-apart : (f : Option Name) → IsLoopAhead program t (ending_of (option_map variables f))
    end-apart None = tt
    end-apart (Some x) = tt

    loop-action : (a : Action) → next_of unit t.level.work ≡ does a → Acts a → IsLoopAhead program t o
    loop-action (ending_loop d) e is =
        let x : Reference = (loop_variable unit d, []) in
        at _ is.operation (d, e, (refl, placed x (subst (λ n. IsNamed unit n x) (sym e) refl)))
    loop-action leaving e is = at _ (ends is (function_name unit) refl) (end-apart (function_name unit))
    loop-action _ e is = at _ is.operation tt

    pub loops : (n : Next) → next_of unit t.level.work ≡ n → IsAt n → IsLoopAhead program t o
    loops (wants (evaluating r)) e is = at _ is.operation tt
    loops (wants (referring x actuals)) e is = at _ is.operation tt
    loops (does a) e is = loop-action a e is
