-- Where an iteration of a DO ends, the process stays in its activation.
use Rattle.std.proofs.Common.{◌≡◌, ℕ, ◌+ℤ◌, ◌-ℤ◌, ℤ, pos, List, [], ◌∷◌, ◌++◌, Option, Some, None, Result, Ok, Err, refl, sym, ap, ◌∙◌}
use Rattle.std.proofs.lemmas.Option.{none-some, same_Some}
use Rattle.hep_binding.proofs.Calls.{set-numbered}
use Rattle.hep_machine.specs.declared.event.Kind.{Kind}
use Rattle.hep_machine.specs.Words.{Activation, Level, Location, Loop, Name, Process, Scope, State, Store, Top, Units, Value, does, ending_loop, fault_of, integer_of, integer_or_overflow, level_after_count, living, loop_at, location_of_name, next_of, numbered, result_after_fault, result_after_increment, result_after_loop_end, result_after_loop_variable, result_after_next, scope_of, state_with_store, step_result_of, stepped, top_of, unit_on_top, variable_of, with_loop, with_process, with_value, Int}
use Rattle.hep_event.specs.Sites.{stored_at}
use Rattle.hep_event.specs.StepTexts.{fault_added, value_at, value_in}
use Rattle.hep_event.proofs.StepCases.{step_of_top, one_fault}
use Rattle.hep_machine.proofs.Changes.{stays-level_after_count}

-- ---- levels

stack-there : (o : Option Process) (level : Level) (below : Process) → top_of o ≡ Some (level, below) → o ≡ Some (level ∷ below)
stack-there None level below e = absurd (none-some (level, below) e)
stack-there (Some []) level below e = absurd (none-some (level, below) e)
stack-there (Some (l ∷ ls)) level below e =
    let both : (l, ls) ≡ (level, below) = same_Some (l, ls) (level, below) e in
    ap (λ (t : Level × Process). Some (t.0 ∷ t.1)) both

module _ (program : Units) (t : Top) (alive : living t.state t.process ≡ Some (t.level, t.below)) (after : State) (sound : fault_added t.state.faults after.faults ≡ None) where
  -- the process goes on in the same activation, and no other one was made
  pub record Stays : Type 0 where
    pub level : Level
    pub lives : living after t.process ≡ Some (level, t.below)
    pub activation : level.activation ≡ t.level.activation
    pub activations : after.activations ≡ t.state.activations
    pub halted : after.halted ≡ t.state.halted

  no-fault : (k : Kind) → result_after_fault program t k ≡ stepped after → Stays
  no-fault k made =
      let f = fault_of program t k in
      let same : with_process (record t.state { faults = t.state.faults ++ f ∷ [] }) t.process [] ≡ after = cc in
      absurd (none-some f.kind (sym sound ∙ (ap (λ (s : State). fault_added t.state.faults s.faults) (sym same) ∙ one_fault t.state.faults f)))

  goes-on : (store : Store) (level : Level) → stepped (state_with_store t store level) ≡ stepped after → level.activation ≡ t.level.activation → Stays
  goes-on store level made same_activation =
      let same : state_with_store t store level ≡ after = cc in
      let there = stack-there (numbered t.state.processes t.process) t.level t.below alive in
      record {
        level = level;
        lives = ap (λ (s : State). living s t.process) (sym same) ∙ ap top_of (set-numbered t.state.processes t.process (t.level ∷ t.below) (level ∷ t.below) there);
        activation = same_activation;
        activations = ap (λ (s : State). s.activations) (sym same);
        halted = ap (λ (s : State). s.halted) (sym same);
      }

  by-increment : (l : Loop) (at : Location) (z : Result ℤ Kind) → result_after_increment program t l at z ≡ stepped after → Stays
  by-increment l at (Err k) made = no-fault k made
  by-increment l at (Ok z) made =
      let level : Level = record t.level { loops = with_loop t.level.loops (record { statement = l.statement; count = l.count -ℤ pos 1; increment = l.increment }) } in
      goes-on (with_value t.state.store at (Some (Int z))) (level_after_count (unit_on_top program t) level l.statement (l.count -ℤ pos 1)) made (
      stays-level_after_count (unit_on_top program t) level l.statement (l.count -ℤ pos 1))

  by-variable : (l : Loop) (at : Location) (v : Option Value) → result_after_loop_variable program t l at v ≡ stepped after → Stays
  by-variable l at None made = no-fault _ made
  by-variable l at (Some v) made = by-increment l at (integer_or_overflow (integer_of v +ℤ l.increment)) made

  by-location : (l : Loop) (at : Result Location Kind) → result_after_loop_end program t l at ≡ stepped after → Stays
  by-location l (Err k) made = no-fault k made
  by-location l (Ok at) made = by-variable l at (t.state.store at).value made

  pub loop-stays : (d : ℕ) → next_of (unit_on_top program t) t.level.work ≡ does (ending_loop d) → step_result_of program t.process t.state ≡ stepped after → Stays
  loop-stays d next made =
      by-location (loop_at t.level.loops d) (location_of_name (scope_of program t.state t.level.activation) (variable_of (unit_on_top program t) d) []) (
      sym (step_of_top program t.state t.process (t.level, t.below) alive ∙ ap (result_after_next program t) next) ∙ made)

  -- its variables are where they were
  pub value-stays : (h : Stays) (x : Name) → value_in program t after.store x ≡ stored_at after.store (location_of_name (scope_of program after h.level.activation) x [])
  value-stays h x =
      let same : scope_of program t.state t.level.activation ≡ scope_of program after h.level.activation
      = ap (λ (xs : List Activation). scope_with xs t.level.activation) (sym h.activations) ∙ ap (scope_of program after) (sym h.activation) in
      by (location_of_name (scope_of program t.state t.level.activation) x []) ∙ ap (λ scope. stored_at after.store (location_of_name scope x [])) same
    where
      scope_with : List Activation → ℕ → Scope
      scope_with xs a = scope_of program (record after { activations = xs }) a

      by : (o : Result Location Kind) → value_at program t after.store o ≡ stored_at after.store o
      by (Ok at) = refl
      by (Err k) = refl
