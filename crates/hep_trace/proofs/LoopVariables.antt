-- The variable of a DO after the end of an iteration.
use Rattle.std.proofs.Common.{◌≡◌, ℕ, List, [], Option, sym, ap, ◌∙◌, subst}
use Rattle.hep_code.specs.declared.instruction.Operation.TheVariants.{EndLoop}
use Rattle.hep_code.specs.declared.variable.Variable.{Variable}
use Rattle.hep_core.specs.CoreValues.{CoreValue, state_of}
use Rattle.hep_core.proofs.Histories.{state-is}
use Rattle.hep_core.proofs.GoodTickets.{halted-is}
use Rattle.hep_layout.specs.Words.{address}
use Rattle.hep_machine.specs.Words.{Level, Name, Next, Process, State, Top, Units, Value, does, ending_loop, living, location_of_name, run, schedule_of, scope_of, unit_at, unit_of, unit_on_top, variable_of as loop_variable}
use Rattle.hep_trace.proofs.LoopEnds.{Stays, loop-stays, value-stays}
use Rattle.hep_event.specs.declared.sites.Site.{Site}
use Rattle.hep_event.specs.Sites.{HasValue, IsSite, IsSiteAfter, IsSomeSite, IsVariableOf, LivesAfter, stored_at}
use Rattle.hep_state.specs.declared.core_state.CoreState.{CoreState}
use Rattle.hep_state.specs.Words.{IsMachineAfter, snapshot_of}
use Rattle.hep_state.proofs.UnchangedStates.{carry}
use Rattle.hep_event.specs.StepTexts.{value_in}
use Rattle.hep_trace.specs.declared.observation.BeforeTurn.{BeforeTurn}
use Rattle.hep_trace.specs.Observations.{IsLoopAhead, IsStepSeen, IsValueSeen}
use Rattle.hep_trace.proofs.MadeTurns.{program-same}

same-loop : (n : Next) (d e : ℕ) → n ≡ does (ending_loop d) → n ≡ does (ending_loop e) → d ≡ e
same-loop n d e first second =
    let both : does (ending_loop d) ≡ does (ending_loop e) = sym first ∙ second in
    cc

-- a step was made, with an operation that ends an iteration of a DO with this variable
module _ (old : CoreValue) (t : Top) (b : BeforeTurn) (new : CoreValue) (h : IsStepSeen old t b new) (v : Variable) (cells inside behind : ℕ) (is : b.operation ≡ EndLoop v cells inside behind)
    (m : CoreState) (after : IsMachineAfter new.program new.cells (schedule_of new.history) m) where
  abbrev s : State
  s = run new.program (schedule_of new.history)

  same : new.program ≡ old.program
  same = program-same old t.process new h.turn.made

  state-same : state_of new ≡ s
  state-same = state-is new.program new.history

  ahead : IsLoopAhead old.program t (EndLoop v cells inside behind)
  ahead = subst (IsLoopAhead old.program t) is h.turn.before.loop

  abbrev x : Name
  x = loop_variable (unit_on_top old.program t) ahead.0

  abbrev stays : Stays old.program t h.turn.lives (state_of new) h.sound
  stays = loop-stays old.program t h.turn.lives (state_of new) h.sound ahead.0 ahead.1 h.made

  abbrev top : Level × Process
  top = (stays.level, t.below)

  abbrev lives : LivesAfter new.program new.cells (schedule_of new.history) m t.process top
  lives = record {
    after = after;
    running = halted-is new.program new.cells new.history (snapshot_of m) after.after ∙ stays.halted ∙ h.running;
    lives = ap (λ z. living z t.process) (sym state-same) ∙ stays.lives;
  }

  unit-same : unit_of s stays.level.activation ≡ unit_of t.state t.level.activation
  unit-same =
      ap (λ z. unit_of z stays.level.activation) (sym state-same)
      ∙ (λ i. unit_of (record (state_of new) { activations = stays.activations i }) (stays.activation i))

  named : IsVariableOf new.program (unit_at new.program (unit_of s stays.level.activation)) x v
  named = carry (λ i. IsVariableOf (sym same i) (unit_at (sym same i) (sym unit-same i)) x v) ahead.2

  -- the variable is looked for in the machine after the step
  abbrev IsLookedFor : Units → ℕ → Type 0
  IsLookedFor u p =
      (cells : ℕ) × (choices : List ℕ) × (top : Level × Process) × LivesAfter u cells choices m p top × (x : Name)
      × IsVariableOf u (unit_at u (unit_of (run u choices) top.0.activation)) x v

  pub looked-for : (u : Units) (p : ℕ) → u ≡ new.program → t.process ≡ p → IsLookedFor u p
  looked-for u p e same_process = carry (λ i. IsLookedFor (sym e i) (same_process i)) ((new.cells, schedule_of new.history, top, lives, x, named))

  -- wherever it is, it is found at a site
  abbrev IsFoundAt : Option Site → Units → ℕ → Type 0
  IsFoundAt site u p =
      (cells : ℕ) (choices : List ℕ) (top : Level × Process) (lives : LivesAfter u cells choices m p top) (x : Name)
      → IsVariableOf u (unit_at u (unit_of (run u choices) top.0.activation)) x v
      → IsSite u (run u choices) (address u (run u choices) lives.after.after.layout) site (location_of_name (scope_of u (run u choices) top.0.activation) x [])

  site-after : (site : Option Site) → IsFoundAt site new.program t.process
      → IsSiteAfter new.program new.cells (schedule_of new.history) m site (location_of_name (scope_of new.program s stays.level.activation) x [])
  site-after site found = record { after = after; site_is = found new.cells (schedule_of new.history) top lives x named }

  pub some-site : (site : Option Site) (u : Units) (p : ℕ) → u ≡ new.program → t.process ≡ p → IsFoundAt site u p → IsSomeSite m site
  some-site site u p e same_process found = (
    new.program,
    new.cells,
    schedule_of new.history,
    location_of_name (scope_of new.program s stays.level.activation) x [],
    site-after site (carry (λ i. IsFoundAt site (e i) (sym same_process i)) found),
  )

  -- and its value there is the one after the step
  pub value-after : (site : Option Site) (u : Units) (p : ℕ) (found : Option Value) → u ≡ new.program → t.process ≡ p → IsFoundAt site u p → HasValue m site found
      → IsValueSeen old.program t b (state_of new) found b.operation
  value-after site u p found e same_process there has =
      let read = has new.program new.cells (schedule_of new.history) _ (site-after site (carry (λ i. IsFoundAt site (e i) (sym same_process i)) there)) in
      let stored : found ≡ value_in old.program t (state_of new).store x =
      read
      ∙ (λ i. stored_at (sym state-same i).store (location_of_name (scope_of (same i) (sym state-same i) stays.level.activation) x []))
      ∙ sym (value-stays old.program t h.turn.lives (state_of new) h.sound stays x) in
      subst (IsValueSeen old.program t b (state_of new) found) (sym is) (
      λ d next. stored ∙ ap (λ k. value_in old.program t (state_of new).store (loop_variable (unit_on_top old.program t) k)) (same-loop _ ahead.0 d ahead.1 next))
