-- An activation that is running: what it does next, what stays where its level moves, and what a reply leads to.
use Rattle.std.proofs.Common.{◌≡◌, ℕ, Bool, true, false, List, refl, ap, sym, ◌∙◌, subst, [], ◌∷◌, Option, Some, None, nat_eq, Result, Ok, Err, slice_set, eqb-true}
use Rattle.std.specs.Option.{unwrap_or}
use Rattle.hep_machine.specs.Words.{Value, Units, line_at, makes, undefined, unset_cell, next_of, Action, Next, does, Level, Store, State, Answer, Scope, StepResult, Top, scope_of, stepped, waiting, result_after_fault, result_after_next, state_with_level, state_with_store, step_result_of, step_result_of_top, result_after_action, with_cell}
use Rattle.hep_machine.specs.declared.slot.Slot.{Slot}
use Rattle.hep_machine.specs.Access.{gives, waits}
use Rattle.hep_machine.specs.Step as step
use Rattle.hep_code.specs.Words.{ending_of, Answers, Finds, Reply, accessed, result, Stands, IsAt, IsNext}
use Rattle.hep_layout.specs.Words.{IsMemory, address, Describes, level_of, loop_among, slot_of_loop, slot_on_level, descriptor_slots}
use Rattle.hep_layout.proofs.Descriptors.{described-same, described-written, wanted-same}
use Rattle.hep_layout.proofs.Memory.{memory-same, memory-written}
use Rattle.hep_image.specs.Addressing.{address_of, cells_in}
use Rattle.hep_step.specs.Effects.{effect_of_reply, moves, fails}
use Rattle.hep_step.specs.Simulation.{IsRunning, Reaches, RunningTop, Simulates, addressed_on_top, arrays_running, code_ahead, counts_in, step_result_running, unit_running}
use Rattle.hep_machine.specs.declared.event.Kind.{Kind}
use Rattle.hep_code.specs.declared.instruction.Instruction.{Instruction}
use Rattle.hep_code.specs.declared.instruction.Instruction.TheVariants.{Step}
use Rattle.hep_code.specs.declared.instruction.Operation.{Operation}
use Rattle.hep_code.specs.declared.instruction.Operation.TheVariants.{Answer as Answering, Return}
use Rattle.hep_code.specs.declared.variable.Variable.{Variable}
use Rattle.hep_code.proofs.ControlFlow.{next_is_ahead}
use Rattle.hep_code.proofs.CodePositions.{Keeps, StandsAt}

module _ (program : Units) (t : Top) where
  -- what becomes of an answer, where a value leads to a level
  abbrev pub after_answer : (Value → Level) → Answer → StepResult
  after_answer goes_on (step.gives v store) = stepped (state_with_store t store (goes_on v))
  after_answer goes_on (step.waits w) = waiting w
  after_answer goes_on (step.fails k) = result_after_fault program t k

-- what its names stand for, and where its variables are found
abbrev pub scope_running : RunningTop → Scope
scope_running r = scope_of r.program r.top.state r.top.level.activation

abbrev pub found_running : RunningTop → Variable → List Value → Result ℕ Kind
found_running r = address_of (cells_in r.arena.contents) r.frame.first (arrays_running r)

-- what comes next of its statement
abbrev pub coming : RunningTop → Next
coming r = next_of (unit_running r) r.top.level.work

-- this does, and the operation ahead, with the operands and with these instructions behind it, is what stands for it
abbrev pub Comes : RunningTop → Next → Operation → List Instruction → Type 0
Comes r = IsNext (addressed_on_top r.program r.top) r.top.level.statement r.top.level.work r.operands r.index

-- ---- the end of an activation is one of two operations

abbrev pub is_end : Operation → Bool
is_end Return = true
is_end (Answering x) = true
is_end _ = false

ending_is_end : (q : Option Variable) → is_end (ending_of q) ≡ true
ending_is_end None = refl
ending_is_end (Some x) = refl

-- no other one is
pub no_end : {A : Type 0} (o : Operation) (q : Option Variable) → o ≡ ending_of q → is_end o ≡ false → A
no_end o q same none = absurd (let both : true ≡ false = sym (ending_is_end q) ∙ (sym (ap is_end same) ∙ none) in cc)

module _ (r : RunningTop) (running : IsRunning r) where
  -- it is at the index, with the counts of its DOs
  pub is_at : IsAt (addressed_on_top r.program r.top) r.top.level r.operands (counts_in (unit_running r) r.arena.contents r.frame.first) r.index
  is_at = record { stands = running.stands; loops = running.counted r.top.state r.top.level r.arena.contents refl running.described running.level }

  pub cells_found : Finds (address r.program r.top.state r.layout) (cells_in r.arena.contents) r.top.state.store
  cells_found p at e = ap (λ slot. unwrap_or slot unset_cell) (running.memory.holds at p e)

  -- ---- what it does next

  -- a step is that of what comes next of the statement
  pub step_is : step_result_running r ≡ result_after_next r.program r.top (coming r)
  unfolding step_result_of
  step_is = ap (step_result_of_top r.program r.top.state r.top.process) running.lives

  pub action_made : (a : Action) → coming r ≡ does a → step_result_running r ≡ result_after_action r.program r.top a
  action_made a is = step_is ∙ ap (result_after_next r.program r.top) is

  module _ (line : ℕ) (o : Operation) (behind : List Instruction) (ahead : code_ahead r ≡ Step line o ∷ behind) where
    next_ahead : (line_at (unit_running r) r.top.level.statement ≡ line) × Comes r (coming r) o behind
    next_ahead = next_is_ahead (addressed_on_top r.program r.top) r.top.level.statement r.top.level.work r.operands r.index running.stands line o behind ahead

    pub next_is : Comes r (coming r) o behind
    next_is = next_ahead.1

    -- a fault
    pub fault_is : (k : Kind) → step_result_running r ≡ result_after_fault r.program r.top k → Simulates r (fails line k)
    fault_is k made = (made, next_ahead.0)

  -- ---- a level that leaves the DOs

  module _ (after : Level) (activation : after.activation ≡ r.top.level.activation) (loops : after.loops ≡ r.top.level.loops) where
    counts_stay : (a d i : ℕ) → slot_on_level (level_of (state_with_level r.top after) a) d i ≡ slot_on_level (level_of r.top.state a) d i
    counts_stay a d i = by (nat_eq r.top.level.activation a) refl where
      by : (b : Bool) → nat_eq r.top.level.activation a ≡ b → slot_on_level (level_of (state_with_level r.top after) a) d i ≡ slot_on_level (level_of r.top.state a) d i
      by false e = ap (λ level. slot_on_level level d i) (running.others after a activation e)
      by true e =
          subst (λ b. slot_on_level (level_of (state_with_level r.top after) b) d i ≡ slot_on_level (level_of r.top.state b) d i) (eqb-true r.top.level.activation a e)
          (ap (λ level. slot_on_level level d i) (running.itself after activation) ∙ ap (λ ls. slot_of_loop (loop_among d ls) i) loops ∙ sym (ap (λ level. slot_on_level level d i) running.level))

    -- the arena is that of a state with this level
    reaching : (s : State) → ((b : ℕ) → level_of s b ≡ level_of (state_with_level r.top after) b) → s.activations ≡ r.top.state.activations → (new : List Slot) (vs : List Value) (n : ℕ) → IsMemory r.program s r.layout new r.arena.holes
        → Describes r.program r.top.state r.layout (descriptor_slots r.program r.top.state r.layout) new → Stands (addressed_on_top r.program r.top) after.statement after.work vs n → Reaches r s after new vs n
    reaching s levels activations new vs n memory described stands =
        record {
          activation = activation;
          memory = memory;
          described =
              described-same r.program r.top.state s r.layout (descriptor_slots r.program r.top.state r.layout) (descriptor_slots r.program s r.layout) new described activations (λ a c v w.
              sym (wanted-same r.program r.top.state s r.layout a c activations (λ d i is_loop. ap (λ o. slot_on_level o d i) (levels a) ∙ counts_stay a d i)) ∙ w);
          stands = stands;
        }

    pub reached : (store : Store) (new : List Slot) (vs : List Value) (n : ℕ) → IsMemory r.program (state_with_store r.top store after) r.layout new r.arena.holes → Describes r.program r.top.state r.layout (descriptor_slots r.program r.top.state r.layout) new
        → Stands (addressed_on_top r.program r.top) after.statement after.work vs n → Reaches r (state_with_store r.top store after) after new vs n
    reached store = reaching (state_with_store r.top store after) (λ b. refl) refl

  -- where only the level moves
  module _ (after : Level) (keeps : Keeps (addressed_on_top r.program r.top) r.top.level after) where
    pub reaches : (s : State) → ((b : ℕ) → level_of s b ≡ level_of (state_with_level r.top after) b) → s.activations ≡ r.top.state.activations → (n : ℕ) → s.store ≡ r.top.state.store → StandsAt (addressed_on_top r.program r.top) after n
        → Reaches r s after r.arena.contents [] n
    reaches s levels activations n store =
        reaching after keeps.1 keeps.0 s levels activations r.arena.contents [] n (memory-same r.program r.top.state s r.layout r.arena.contents r.arena.holes running.memory activations store) running.described

    pub level_moves : (n : ℕ) → step_result_running r ≡ stepped (state_with_level r.top after) → StandsAt (addressed_on_top r.program r.top) after n → Simulates r (moves r.arena.contents [] n)
    level_moves n made stands = (r.top.state.store, after, made, reaches (state_with_store r.top r.top.state.store after) (λ b. refl) refl n refl stands)

  -- ---- replies

  -- where a value leads to a level that leaves the DOs, and to operands at an index
  module _ (goes_on : Value → Level) (activation : (v : Value) → (goes_on v).activation ≡ r.top.level.activation) (loops : (v : Value) → (goes_on v).loops ≡ r.top.level.loops) (values : Value → List Value) (n : ℕ) (stands : (v : Value) → Stands (addressed_on_top r.program r.top) (goes_on v).statement (goes_on v).work (values v) n) (line : ℕ) (line_is : line_at (unit_running r) r.top.level.statement ≡ line) where
    abbrev pub IsDone : Reply → Type 0
    IsDone reply = Simulates r (effect_of_reply line r.arena.contents (λ new v. moves new (values v) n) reply)

    -- no cell is another one
    given : (v : Value) → step_result_running r ≡ stepped (state_with_store r.top r.top.state.store (goes_on v)) → Simulates r (moves r.arena.contents (values v) n)
    given v is =
        let s = state_with_store r.top r.top.state.store (goes_on v) in
        (r.top.state.store, goes_on v, is, reached (goes_on v) (activation v) (loops v) r.top.state.store r.arena.contents (values v) n (memory-same r.program r.top.state s r.layout r.arena.contents r.arena.holes running.memory refl refl) running.described (stands v))

    pub replied : (reply : Reply) (answer : Answer) → Answers (address r.program r.top.state r.layout) r.top.state.store reply answer → step_result_running r ≡ after_answer r.program r.top goes_on answer → IsDone reply
    replied (result (Ok v)) answer same is = given v (is ∙ ap (after_answer r.program r.top goes_on) same)
    replied (result (Err k)) answer same is = (is ∙ ap (after_answer r.program r.top goes_on) same, line_is)
    replied (accessed p (gives v)) answer same is = given v (is ∙ ap (after_answer r.program r.top goes_on) same.2)
    replied (accessed p (makes v slot)) answer same is =
        let store = with_cell r.top.state.store same.0 slot in
        let s = state_with_store r.top store (goes_on v) in (
          store,
          goes_on v,
          is ∙ ap (after_answer r.program r.top goes_on) same.2,
          reached (goes_on v) (activation v) (loops v) store (slice_set r.arena.contents p slot) (values v) n (memory-written r.program r.top.state s r.layout r.arena.contents r.arena.holes same.0 p slot running.memory same.1 refl refl) (described-written r.program r.top.state r.layout (descriptor_slots r.program r.top.state r.layout) r.arena.contents same.0 p slot running.memory.laid running.described same.1) (stands v),
        )
    replied (accessed p (waits full)) answer same is = (same.0, is ∙ ap (after_answer r.program r.top goes_on) same.2, same.1)
    replied (accessed p undefined) answer same is = (is ∙ ap (after_answer r.program r.top goes_on) same.2, line_is)
