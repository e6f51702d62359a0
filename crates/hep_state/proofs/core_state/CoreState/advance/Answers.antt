use Rattle.std.proofs.Common.{◌≡◌, Option, refl, sym, ap, ◌∙◌, subst, vec_capacity}
use Rattle.std.proofs.lemmas.Result.{IfOk-weaker, on_err_weaker}
use Rattle.hep_cells.specs.declared.want.Want.{Want}
use Rattle.hep_step.specs.declared.effect.Effect.{Effect}
use Rattle.hep_step.specs.declared.effect.Effect.TheVariants.{Moved, Printed, Failed, Waits, Returned, Answered, Stopped, LeftOut}
use Rattle.hep_step.specs.Effects as effects
use Rattle.hep_step.specs.Effects.{effect_at, changed_at}
use Rattle.hep_step.specs.PerformedSteps as performed
use Rattle.hep_step.specs.PerformedSteps.{changed_in}
use Rattle.hep_step.specs.Simulation.{unit_arrays, unit_code}
use Rattle.hep_proc.proofs.Levels.{last-there}
use Rattle.hep_state.specs.Words.{Changes, node_under, Snapshot, snapshot_of, IsLeft, StaysWaiting, turn_with}
use Rattle.hep_state.proofs.OtherProcesses.{beside-set}
use Rattle.hep_state.proofs.SilentTurns.{top-node}
use Rattle.hep_state.proofs.Processes.{process-at, room-moved, shown-now}
use Rattle.hep_state.proofs.TopActivations.{turning}
use Rattle.hep_state.proofs.Changes.{changes-only}
use Rattle.hep_state.proofs.TakenTurns.{ahead-simulated, inside, left-over, ready, unperformed, with_performed}
use Rattle.hep_state.proofs.UnchangedStates.{rooms-set}
use Rattle.hep_state.proofs.core_state.CoreState.advance.Goals as goal

pub place-at-requires : goal.place-at-requires
place-at-requires c = record { numbers = c.requires.after.2.numbers; living = c.requires.plain.levels }

pub advance-requires : goal.advance-requires
advance-requires c =
    let program = c.args.image.now in
    let p = c.args.p in
    let q = c.index_mut-process.result.now in
    let e = c.requires.plain in
    let l = e.levels in
    let h = c.requires.after.2 in
    let laws = c.tops_are_running.ensures in
    let accepted = c.is_runnable.ensures.accepted in
    let main = c.is_runnable.ensures.main in
    let it = process-at c.args.self.now p c.requires.after.2.numbers c.place-at.ensures l.kept c.index_mut-process.ensures.value in
    let turn = turning p h.after l c.requires.running in
    let t = turn_with program c.requires.after.0 c.requires.after.1 l turn.0 in
    record {
      l = l.level;
      ls = l.below;
      operands = l.operands;
      pending = l.pending;
      stack = it.stack;
      inside = inside turn.1;
      there = top-node turn.1;
      ready =
          ready turn.1 (laws.running t accepted main turn.1) (vec_capacity q.operands) (laws.arrays t accepted main turn.1) h.few
          (h.room c.place-at.result q it.there _ l.level (last-there q l.level l.below l.operands l.pending it.stack));
    }

-- an operation that waits has changed nothing
abbrev Stays : Effect → performed.Snapshot → performed.Snapshot → Type 0
Stays (Waits want) before after = after ≡ before
Stays _ before after = Unit {0}

stays-so : (effect : Effect) (before after : performed.Snapshot) → after ≡ before → Stays effect before after
stays-so (Waits want) before after is = is
stays-so (Moved changed) before after is = tt
stays-so (Printed items) before after is = tt
stays-so (Failed line kind) before after is = tt
stays-so Returned before after is = tt
stays-so (Answered v) before after is = tt
stays-so Stopped before after is = tt
stays-so LeftOut before after is = tt

stays : (ahead : effects.Effect) (changed : Option Want) (before : performed.Snapshot) (effect : Effect) (after : performed.Snapshot) → performed.IsPerformed ahead changed before effect after → Stays effect before after
stays (effects.moves contents operands index) changed before effect after is = subst (λ (e : Effect). Stays e before after) (sym (ap (λ (x : Effect × performed.Snapshot). x.0) is)) tt
stays (effects.prints items index) changed before effect after is = subst (λ (e : Effect). Stays e before after) (sym (ap (λ (x : Effect × performed.Snapshot). x.0) is)) tt
stays (effects.fails line kind) changed before effect after is = stays-so effect before after (ap (λ (x : Effect × performed.Snapshot). x.1) is)
stays (effects.waits address full) changed before effect after is = stays-so effect before after (ap (λ (x : Effect × performed.Snapshot). x.1) is)
stays effects.returns changed before effect after is = stays-so effect before after (ap (λ (x : Effect × performed.Snapshot). x.1) is)
stays (effects.answers v) changed before effect after is = stays-so effect before after (ap (λ (x : Effect × performed.Snapshot). x.1) is)
stays effects.stops changed before effect after is = stays-so effect before after (ap (λ (x : Effect × performed.Snapshot). x.1) is)
stays effects.left_out changed before effect after is = stays-so effect before after (ap (λ (x : Effect × performed.Snapshot). x.1) is)

-- and so the machine shows the same
stays-shown : (effect : Effect) (m new : Snapshot) {before after : performed.Snapshot} → (after ≡ before → new ≡ m) → Stays effect before after → StaysWaiting effect m new
stays-shown (Waits want) m new shown is = shown is
stays-shown (Moved changed) m new shown is = tt
stays-shown (Printed items) m new shown is = tt
stays-shown (Failed line kind) m new shown is = tt
stays-shown Returned m new shown is = tt
stays-shown (Answered v) m new shown is = tt
stays-shown Stopped m new shown is = tt
stays-shown LeftOut m new shown is = tt

pub returns : goal.returns
returns c =
    let program = c.args.image.now in
    let old = c.args.self.now in
    let m = snapshot_of old in
    let p = c.args.p in
    let q = c.index_mut-process.result.now in
    let r = c.advance.new.process in
    let done = c.advance.ensures in
    let e = c.requires.plain in
    let l = e.levels.level in
    let ls = e.levels.below in
    let vs = e.levels.operands in
    let ws = e.levels.pending in
    let law = c.tops_are_running.ensures.running in
    let accepted = c.is_runnable.ensures.accepted in
    let main = c.is_runnable.ensures.main in
    let it = process-at old p c.requires.after.2.numbers c.place-at.ensures e.levels.kept c.index_mut-process.ensures.value in
    let a = done.advanced l ls vs ws it.stack in
    let after = performed.snapshot c.advance.new.frames.arena.contents a.left a.next in
    let ahead = effect_at (unit_code program l.unit) (unit_arrays program l.unit) (node_under m.nodes l.key).first m.arena.contents vs l.index in
    let changed = changed_at (unit_code program l.unit) (unit_arrays program l.unit) (node_under m.nodes l.key).first m.arena.contents vs l.index in
    let shown = shown-now old p r c.advance.new.frames l ls a.left ws a.next c.requires.after.2.numbers it done.same.number a.stack done.holes done.nodes in
    record {
      performed = IfOk-weaker c.advance.result _ _ (λ effect is. (
        λ cells choices h.
            let turn = turning p h.after e.levels c.requires.running in
            let simulated = ahead-simulated turn.1 (law (turn_with program cells choices e.levels turn.0) accepted main turn.1) e.past e.plain in
            subst (λ (n : Snapshot). IsLeft program cells choices p n effect) (sym shown) (left-over turn.1 ahead changed effect after simulated done.cells is),
        let turn = turning p c.requires.after.2.after e.levels c.requires.running in
            stays-shown effect m _ (λ same. shown ∙ (ap (with_performed turn.1) same ∙ unperformed turn.1)) (stays ahead changed (performed.snapshot m.arena.contents vs l.index) effect after is),
      )) a.performed;
      changed = IfOk-weaker c.advance.result _ _ (λ effect is cells choices h.
          let turn = turning p h.after e.levels c.requires.running in
          let told = changes-only turn.1 (law (turn_with program cells choices e.levels turn.0) accepted main turn.1) e.past e.plain in
          subst (Changes program cells choices p) (sym (ap (λ (x : Effect × performed.Snapshot). changed_in x.0) is)) told) a.performed;
      refused = on_err_weaker c.advance.result (λ is.
          let turn = turning p c.requires.after.2.after e.levels c.requires.running in
          shown ∙ (ap (with_performed turn.1) is ∙ unperformed turn.1)) a.refused;
      others = beside-set p old r c.requires.after.2.numbers it e.levels.kept done.same.number;
      kept = record {
        rooms = λ cells h. rooms-set program cells old _ r it done.same.number refl refl refl (room-moved program q r l a.next ls vs a.left ws it.stack a.stack done.same.room (h.room c.place-at.result q it.there)) h;
        records = refl;
        faults = refl;
        made = refl;
      };
    }
