-- Which storage unit a step fills or empties: the one that the operation ahead of the process tells of, if one stands ahead that may do so.
use Rattle.std.proofs.Common.{◌≡◌, ℕ, Bool, true, false, List, [], ◌∷◌, ◌++◌, drop, Option, Some, None, refl, sym, ap, ◌∙◌, subst}
use Rattle.std.specs.Option.{unwrap_or}
use Rattle.std.proofs.lemmas.Option.{none-some, same_Some, slice_get_within}
use Rattle.hep_machine.specs.Words.{assigning, does, evaluating, purging, referring, wants, Next, is_held, is_purge, layout_of, purges, top_purges, Layout, Location, State, line_at, run, step, unit_of}
use Rattle.hep_layout.specs.Words.{address}
use Rattle.hep_layout.proofs.HeldFrames.{run-last}
use Rattle.hep_cells.specs.Changes.{full_after}
use Rattle.hep_cells.specs.declared.want.Want.{Want}
use Rattle.hep_blocked.specs.Needs.{on_top, touched_by, touched_by_next}
use Rattle.hep_blocked.proofs.TouchedUnits.{states-stay}
use Rattle.hep_code.specs.declared.instruction.Instruction.{Instruction}
use Rattle.hep_code.specs.declared.instruction.Instruction.TheVariants.{Step}
use Rattle.hep_code.specs.declared.instruction.Operation.{Operation}
use Rattle.hep_code.specs.Words.{IsPastPushes}
use Rattle.hep_code.proofs.ControlFlow.{step_is_ahead}
use Rattle.hep_step.specs.declared.effect.Effect.{Effect}
use Rattle.hep_step.specs.Effects as effects
use Rattle.hep_step.specs.Effects.{effect_ahead, effect_at, AreChanged, changed_ahead, changed_at, may_change}
use Rattle.hep_step.specs.PerformedSteps as performed
use Rattle.hep_step.specs.PerformedSteps.{changed_in, performed as done, snapshot}
use Rattle.hep_step.specs.Simulation.{IsNotLeftOut, RunningTop, addressed_on_top, arrays_running, code_on_top, code_running, unit_arrays, unit_code, unit_running}
use Rattle.hep_step.proofs.Operations.{operation_simulated, changes-told, none-changed, none-told}
use Rattle.hep_step.proofs.RunningActivations.{Comes, coming, next_is, scope_running}
use Rattle.hep_state.specs.Words.{Changes, IsTopRunning, IsTurning, TurnOf, running_top, state_before, top_before, top_frame}
use Rattle.hep_state.proofs.SilentTurns.{unit-is}
use Rattle.hep_state.proofs.TakenTurns.{AreAlike, alike-by, before, full-there}

module _ {t : TurnOf} (turning : IsTurning t) where
  abbrev old : State
  old = state_before t

  abbrev layout : Layout
  layout = turning.after.layout

  abbrev Told : Option Want → Type 0
  Told changed = Changes t.program t.cells t.choices t.process changed

  -- ---- a step that touches no storage unit

  module _ (untouched : touched_by t.program t.process old ≡ None) (calm : is_purge t.program old t.process ≡ false) where
    stays-by : (o : Option State) → step t.program t.process old ≡ o → (at : Location) → ((unwrap_or o old).store at).full ≡ (old.store at).full
    stays-by None made at = refl
    stays-by (Some s) made at = states-stay t.program t.process old s at made calm (λ touched. none-some at (sym untouched ∙ touched))

    stays : (at : Location) → ((run t.program (t.choices ++ t.process ∷ [])).store at).full ≡ (old.store at).full
    stays at = ap (λ (s : State). (s.store at).full) (run-last t.program t.choices t.process) ∙ stays-by (step t.program t.process old) refl at

    untouched-told : Told None
    untouched-told = record { told = λ fs laid at c here. stays at; differs = λ w fs at e laid here. absurd (none-some w e) }

  -- ---- an operation that may fill and empty nothing

  module _ (runs : IsTopRunning t turning) (line : ℕ) (o : Operation) (behind : List Instruction) (ahead : drop t.level.index (code_on_top t.program (top_before t)) ≡ Step line o ∷ behind) (none : may_change o ≡ false) where
    no-access : {A : Type 0} (other : Operation) → o ≡ other → may_change other ≡ true → A
    no-access other is may = absurd (let both : true ≡ false = sym may ∙ (sym (ap may_change is) ∙ none) in cc)

    touched-none : (n : Next) → Comes (running_top t turning) n o behind → touched_by_next (scope_running (running_top t turning)) n ≡ None
    touched-none (wants (evaluating q)) h = no-access _ h.operation refl
    touched-none (wants (referring x actuals)) h = refl
    touched-none (does (assigning q v)) h = no-access _ h.operation refl
    touched-none (does _) h = refl

    purges-none : (n : Next) → Comes (running_top t turning) n o behind → purges n ≡ false
    purges-none (does (purging targets)) h = no-access _ h.operation refl
    purges-none (does _) h = refl
    purges-none (wants _) h = refl

    next : Comes (running_top t turning) (coming (running_top t turning)) o behind
    next = next_is (running_top t turning) runs line o behind ahead

    pub none-ahead : Told None
    none-ahead =
        untouched-told (ap (on_top touched_by_next t.program old) runs.lives ∙ touched-none (coming (running_top t turning)) next)
        (ap (top_purges t.program old) runs.lives ∙ purges-none (coming (running_top t turning)) next)

  -- ---- what is told of cells is so of the storage units that they keep

  told-of-units : (changed : Option Want) (x : Effect × performed.Snapshot) → AreChanged changed t.machine.arena.contents x.1.contents → AreAlike turning x → Told changed
  told-of-units changed x cells alike =
      record {
        told = λ fs laid at c here.
            let there = in-layout fs laid at c here in
            let kept = turning.after.shows.keeps.memory.holds at c there in
            alike at c there
            ∙ (cells.told c (slice_get_within t.machine.arena.contents c _ kept)
            ∙ ap (λ full. full_after changed c full) (sym (full-there turning old.store t.machine.arena.contents at c kept)));
        differs = λ w fs at e laid here.
            full-there turning old.store t.machine.arena.contents at w.cell (turning.after.shows.keeps.memory.holds at w.cell (in-layout fs laid at w.cell here))
            ∙ cells.differs w e;
      }
    where
      in-layout : (fs : Layout) → layout_of t.program t.cells is_held t.choices ≡ Some fs → (at : Location) (c : ℕ) → address t.program old fs at ≡ Some c → address t.program old layout at ≡ Some c
      in-layout fs laid at c here = subst (λ (fs : Layout). address t.program old fs at ≡ Some c) (same_Some fs layout (sym laid ∙ turning.after.laid)) here

  -- ---- whatever operation stands ahead that isn't left out

  -- what it tells once it is performed, where the unit on top is this one
  abbrev pub told_by : ℕ → Option Want
  told_by u =
      changed_in (done (effect_at (unit_code t.program u) (unit_arrays t.program u) (top_frame t).first t.machine.arena.contents t.operands t.level.index)
      (changed_at (unit_code t.program u) (unit_arrays t.program u) (top_frame t).first t.machine.arena.contents t.operands t.level.index) (before turning)).0

  module _ (runs : IsTopRunning t turning) where
    abbrev r : RunningTop
    r = running_top t turning

    abbrev effect : effects.Effect
    effect = effect_at (code_running r) (arrays_running r) (top_frame t).first t.machine.arena.contents t.operands t.level.index

    abbrev changed : Option Want
    changed = changed_at (code_running r) (arrays_running r) (top_frame t).first t.machine.arena.contents t.operands t.level.index

    -- what it tells, by what stands in the code from the index on
    abbrev ToldBy : List Instruction → Type 0
    ToldBy es =
        let x = done (effect_ahead (code_running r) (arrays_running r) (top_frame t).first es t.machine.arena.contents t.operands t.level.index)
        (changed_ahead (arrays_running r) (top_frame t).first es t.machine.arena.contents t.operands) (before turning) in
        AreChanged (changed_in x.0) t.machine.arena.contents x.1.contents

    changes-here : IsPastPushes (code_running r) t.level.index → IsNotLeftOut (code_running r) t.level.index → Told (told_by (unit_of old t.top.0.activation))
    changes-here past others =
        let s = step_is_ahead (addressed_on_top t.program (top_before t)) t.top.0.statement t.top.0.work t.operands t.level.index runs.stands past in
        by_operation s.0 s.1 s.2 (may_change s.0) refl
      where
        line : ℕ
        line = line_at (unit_running r) t.top.0.statement

        by_operation : (o : Operation) (behind : List Instruction) → drop t.level.index (code_running r) ≡ Step line o ∷ behind → (may : Bool) → may_change o ≡ may → Told (told_by (unit_of old t.top.0.activation))
        by_operation o behind ahead true may =
            let cells = changes-told (code_running r) (arrays_running r) (top_frame t).first line behind (before turning) o may (others line o behind ahead) in
            told-of-units (changed_in (done effect changed (before turning)).0) (done effect changed (before turning)) (subst ToldBy (sym ahead) cells) (alike-by turning effect changed (operation_simulated r runs others past))
        by_operation o behind ahead false none =
            let unchanged : changed ≡ None =
            ap (λ es. changed_ahead (arrays_running r) (top_frame t).first es t.machine.arena.contents t.operands) ahead
            ∙ none-changed (arrays_running r) (top_frame t).first t.machine.arena.contents t.operands o none in
            let nothing : changed_in (done effect changed (before turning)).0 ≡ None = ap (λ told. changed_in (done effect told (before turning)).0) unchanged ∙ none-told effect (before turning) in
            subst Told (sym nothing) (none-ahead runs line o behind ahead none)

    pub changes-only : IsPastPushes (unit_code t.program t.level.unit) t.level.index → IsNotLeftOut (unit_code t.program t.level.unit) t.level.index → Told (told_by t.level.unit)
    changes-only = subst (λ u. IsPastPushes (unit_code t.program u) t.level.index → IsNotLeftOut (unit_code t.program u) t.level.index → Told (told_by u)) (unit-is turning) changes-here
