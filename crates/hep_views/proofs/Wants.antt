-- What a step waits for, which goes by its statement and by what is stored, and that one which stops all processes changes no more than that.
use Rattle.std.proofs.Common.{◌≡◌, ℕ, Bool, true, true≢false, List, [], ◌∷◌, refl, sym, ap, ◌∙◌, Option, Some, None, ◌⊎◌, inl, inr, false, Result, Ok, Err, ℤ, ◌+ℤ◌}
use Rattle.hep_machine.specs.Words.{Value, Units, unit_at, integer_of, integer_or_overflow, Binding, variable_of, Action, Next, wants, Name, evaluating, function_name, function_unit, leaving, referring, result_after_leaving, result_after_result, result_after_value, does, next_of, assigning, entering_loop, ending_loop, calling, creating, purging, resuming, stopping, Scope, location_of_name, living, loop_at, unit_of, Level, Location, Loop}
use Rattle.hep_machine.specs.Words.{Process, State, state_resumed, stepped, Store, Work, Answer, StepResult, Top, Wanted, answer_of, answer_at, binding_of, iterations, fails, written, result_after_action, result_after_answer, result_after_assignment, result_after_call, result_after_create, result_after_do, result_after_increment}
use Rattle.hep_machine.specs.Words.{result_after_loop_end, result_after_loop_variable, result_after_next, result_after_purge, result_after_write, scope_of, step_result_of, step_result_of_top, store_after_purge, unit_called, unit_on_top, wanted_by, wanted_of, step}
use Rattle.hep_machine.specs.declared.event.Kind.{Kind}
use Rattle.hep_machine.specs.Step.{gives, waits}
use Rattle.hep_code.specs.declared.instruction.Instruction.{Instruction}
use Rattle.hep_code.specs.declared.instruction.Instruction.TheVariants.{Step}
use Rattle.hep_code.specs.declared.instruction.Operation.{Operation}
use Rattle.hep_code.specs.Words.{IsNext, AddressedUnit}
use Rattle.hep_step.specs.Simulation.{IsRunning, RunningTop, addressed_on_top, code_ahead, is_left_out, step_result_running}
use Rattle.hep_step.proofs.RunningActivations.{coming, next_is, scope_running, step_is}
use Rattle.hep_machine.proofs.Changes.{Makes, by_step, next_on, top_in}

-- ---- what is waited for, by the parts

waited : Answer → Option Wanted
waited (gives v store) = None
waited (waits w) = Some w
waited (fails k) = None

waited_at : Store → Bool → Result Location Kind → Value → Option Wanted
waited_at store b (Err k) v = None
waited_at store b (Ok at) v = waited (answer_at store at (written b v (store at)))

-- of all actions an assignment alone may wait
waited_by : Scope → Store → Action → Option Wanted
waited_by scope store (assigning r v) = waited_at store r.0.asynchronous (location_of_name scope r.0 r.1) v
waited_by scope store _ = None

waited_next : Scope → Store → Next → Option Wanted
waited_next scope store (wants (evaluating r)) = waited (answer_of scope store r)
waited_next scope store (wants (referring x actuals)) = None
waited_next scope store (does a) = waited_by scope store a

-- ---- that is what the step waits for

-- whether processes are stopped stays so, or that alone changes
abbrev StopsOnly : Top → State → Type 0
StopsOnly t s = (s.halted ≡ t.state.halted) ⊎ (s ≡ record t.state { halted = true })

-- what a step waits for, and that it stops no more than all processes
abbrev Does : Top → Option Wanted → StepResult → Type 0
Does t w r = (wanted_of r ≡ w) × Makes (StopsOnly t) r

module _ (program : Units) (t : Top) where
  abbrev scope : Scope
  scope = scope_of program t.state t.level.activation

  answered : (x : Answer) → Does t (waited x) (result_after_answer program t x)
  unfolding waited
  answered (gives v store) = (refl, inl refl)
  answered (waits w) = (refl, tt)
  answered (fails k) = (refl, inl refl)

  stored : (after : Level) (x : Answer) → Does t (waited x) (result_after_write program t after x)
  unfolding waited
  stored after (gives v store) = (refl, inl refl)
  stored after (waits w) = (refl, tt)
  stored after (fails k) = (refl, inl refl)

  assigned : (b : Bool) (r : Result Location Kind) (v : Value) → Does t (waited_at t.state.store b r v) (result_after_assignment program t b r v)
  unfolding waited_at
  assigned b (Err k) v = (refl, inl refl)
  assigned b (Ok at) v = stored _ (answer_at t.state.store at (written b v (t.state.store at)))

  entered : (at : Result Location Kind) (m increment : ℤ) (count : Result ℤ Kind) → Does t None (result_after_do program t at m increment count)
  entered at m increment (Err k) = (refl, inl refl)
  entered (Err k) m increment (Ok count) = (refl, inl refl)
  entered (Ok at) m increment (Ok count) = (refl, inl refl)

  raised : (l : Loop) (at : Location) (z : Result ℤ Kind) → Does t None (result_after_increment program t l at z)
  raised l at (Err k) = (refl, inl refl)
  raised l at (Ok z) = (refl, inl refl)

  counted : (l : Loop) (at : Location) (v : Option Value) → Does t None (result_after_loop_variable program t l at v)
  counted l at None = (refl, inl refl)
  counted l at (Some v) = raised l at (integer_or_overflow (integer_of v +ℤ l.increment))

  ended : (l : Loop) (at : Result Location Kind) → Does t None (result_after_loop_end program t l at)
  ended l (Err k) = (refl, inl refl)
  ended l (Ok at) = counted l at (t.state.store at).value

  called : (u : ℕ) (b : Result Binding Kind) → Does t None (result_after_call program t u b)
  called u (Err k) = (refl, inl refl)
  called u (Ok b) = (refl, inl refl)

  created : (u : ℕ) (b : Result Binding Kind) → Does t None (result_after_create program t u b)
  created u (Err k) = (refl, inl refl)
  created u (Ok b) = (refl, inl refl)

  purged : (r : Result Store Kind) → Does t None (result_after_purge program t r)
  purged (Err k) = (refl, inl refl)
  purged (Ok store) = (refl, inl refl)

  left-value : (v : Option Value) → Does t None (result_after_value program t v)
  left-value None = (refl, inl refl)
  left-value (Some v) = (refl, inl refl)

  left-result : (at : Result Location Kind) → Does t None (result_after_result program t at)
  left-result (Err k) = (refl, inl refl)
  left-result (Ok at) = left-value (t.state.store at).value

  left : (x : Option Name) → Does t None (result_after_leaving program t x)
  left None = (refl, inl refl)
  left (Some x) = left-result (location_of_name scope x [])

  resumed : (below : Process) → Does t None (stepped (state_resumed program t below))
  resumed [] = (refl, inl refl)
  resumed (caller ∷ callers) = (refl, inl refl)

  acted : (a : Action) → Does t (waited_by scope t.state.store a) (result_after_action program t a)
  unfolding waited_by
  acted (assigning r v) = assigned r.0.asynchronous (location_of_name scope r.0 r.1) v
  acted (entering_loop x m n k) = entered (location_of_name scope x []) (integer_of m) (integer_of k) (iterations (integer_of m) (integer_of n) (integer_of k))
  acted (ending_loop d) = ended (loop_at t.level.loops d) (location_of_name scope (variable_of (unit_on_top program t) d) [])
  acted (calling x actuals) = called (unit_called program x) (binding_of program t (unit_called program x) actuals)
  acted (creating x actuals) = created (unit_called program x) (binding_of program t (unit_called program x) actuals)
  acted (purging targets) = purged (store_after_purge scope targets t.state.store)
  acted leaving = left (function_name (unit_on_top program t))
  acted resuming = resumed t.below
  acted stopping = (refl, inr refl)
  acted _ = (refl, inl refl)

  comes : (n : Next) → Does t (waited_next scope t.state.store n) (result_after_next program t n)
  unfolding waited_next
  comes (wants (evaluating r)) = answered (answer_of scope t.state.store r)
  comes (wants (referring x actuals)) = called (function_unit program x) (binding_of program t (function_unit program x) actuals)
  comes (does a) = acted a

-- a step that stops all processes changes no more than that
pub stopped-only : (program : Units) (p : ℕ) (s t : State) → step program p s ≡ Some t → s.halted ≡ false → t.halted ≡ true
    → t ≡ record s { halted = true }
stopped-only program p s t e going halted =
    let found = by_step StopsOnly program p s t (λ top lives. (comes program (top_in s p top) (next_on program s top)).1) e in
    elim found.2 [ inl stays ↦ absurd (true≢false (sym halted ∙ stays ∙ going)) | inr stopped ↦ stopped ]

-- ---- what never waits

-- an operation that is left out calls, creates, refers to, purges or resumes
waitless-operation : (addressed : AddressedUnit) (k : ℕ) (work : Work) (operands : List Value) (index : ℕ) (o : Operation) (behind : List Instruction) (names : Scope) (store : Store) → is_left_out o ≡ true
    → (n : Next) → IsNext addressed k work operands index n o behind → waited_next names store n ≡ None
unfolding waited_next waited_by
waitless-operation addressed k work operands index o behind names store left (wants (evaluating r)) h = absurd (true≢false (sym left ∙ ap is_left_out h.operation))
waitless-operation addressed k work operands index o behind names store left (wants (referring x actuals)) h = refl
waitless-operation addressed k work operands index o behind names store left (does (assigning r v)) h = absurd (true≢false (sym left ∙ ap is_left_out h.operation))
waitless-operation addressed k work operands index o behind names store left (does _) h = refl

pub left-out-waits-not : (r : RunningTop) → IsRunning r → (line : ℕ) (o : Operation) (behind : List Instruction) → code_ahead r ≡ Step line o ∷ behind → is_left_out o ≡ true → wanted_of (step_result_running r) ≡ None
left-out-waits-not r running line o behind ahead left =
    ap wanted_of (step_is r running) ∙ (comes r.program r.top (coming r)).0
    ∙ waitless-operation (addressed_on_top r.program r.top) r.top.level.statement r.top.level.work r.operands r.index o behind (scope_running r) r.top.state.store left (coming r) (next_is r running line o behind ahead)

-- a process that doesn't live
pub absent-waits-not : (program : Units) (s : State) (p : ℕ) → living s p ≡ None → wanted_by program p s ≡ None
unfolding step_result_of
absent-waits-not program s p gone = ap (λ o. wanted_of (step_result_of_top program s p o)) gone

-- ---- stopped processes

wanted-top : (program : Units) (s : State) (b : Bool) (p : ℕ) (o : Option (Level × Process)) → wanted_of (step_result_of_top program (record s { halted = b }) p o) ≡ wanted_of (step_result_of_top program s p o)
wanted-top program s b p None = refl
wanted-top program s b p (Some top) =
    let n = next_of (unit_at program (unit_of s top.0.activation)) top.0.work in
    (comes program (record { state = record s { halted = b }; process = p; level = top.0; below = top.1 }) n).0
    ∙ sym (comes program (record { state = s; process = p; level = top.0; below = top.1 }) n).0

pub wanted-halted : (program : Units) (s : State) (b : Bool) (p : ℕ) → wanted_by program p (record s { halted = b }) ≡ wanted_by program p s
unfolding step_result_of
wanted-halted program s b p = wanted-top program s b p (living s p)
