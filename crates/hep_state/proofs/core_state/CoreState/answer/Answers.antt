use Rattle.std.proofs.Common.{◌≡◌, [], Result, sym, ◌∙◌, subst, vec_capacity}
use Rattle.hep_machine.specs.Words.{Value}
use Rattle.hep_machine.specs.declared.event.Kind.{Kind}
use Rattle.hep_image.specs.Addressing.{address_of, cells_in}
use Rattle.hep_proc.specs.Nodes.{nodes_of}
use Rattle.hep_proc.specs.declared.process.Local.{Local}
use Rattle.hep_proc.proofs.Levels.{last-there}
use Rattle.hep_step.specs.Cells.{HasFrame}
use Rattle.hep_step.specs.Effects.{effect_of_answer, value_found}
use Rattle.hep_step.specs.StepReady.{IsAheadReady, IsReady, IsVariableReady, frame_in_arena}
use Rattle.hep_step.specs.Simulation.{unit_arrays, unit_code}
use Rattle.hep_state.specs.Words.{IsPlace, IsToEnd, IsToEndBy, frame_under, snapshot_of, turn_with}
use Rattle.hep_state.proofs.SilentTurns.{top-node}
use Rattle.hep_state.proofs.Processes.{process-at}
use Rattle.hep_state.proofs.ReturnTurns.{answers-so, ends-there, fails-so, running-always}
use Rattle.hep_state.proofs.TakenTurns.{inside, ready}
use Rattle.hep_state.proofs.TopActivations.{turning}
use Rattle.hep_state.proofs.UnchangedStates.{carry}
use Rattle.hep_state.proofs.core_state.CoreState.answer.Goals.{After-index-process, After-as_slice-arrays}
use Rattle.hep_state.proofs.core_state.CoreState.answer.Goals as goal

pub place-at-requires : goal.place-at-requires
place-at-requires c = record { numbers = c.requires.turn.after.2.numbers; living = c.requires.at.operation.levels }

-- its top activation and the code that is ahead can be read
is-ready : (c : After-index-process) → IsReady (unit_code c.args.image.now c.requires.at.operation.levels.level.unit) (unit_arrays c.args.image.now c.requires.at.operation.levels.level.unit) c.args.self.now.frames.arena
    (frame_in_arena (frame_under (snapshot_of c.args.self.now).nodes c.requires.at.operation.levels.level.key)) c.requires.at.operation.levels.operands (vec_capacity c.index-process.result.now.operands) c.requires.at.operation.levels.level.index
is-ready c =
    let r = c.requires.turn in
    let h = r.after.2 in
    let e = c.requires.at.operation.levels in
    let q = c.index-process.result.now in
    let laws = c.tops_are_running.ensures in
    let accepted = c.is_runnable.ensures.accepted in
    let main = c.is_runnable.ensures.main in
    let it = process-at c.args.self.now c.args.p h.numbers c.place-at.ensures e.kept c.index-process.ensures in
    let turn = turning c.args.p h.after e r.running in
    let t = turn_with c.args.image.now r.after.0 r.after.1 e turn.0 in
    ready turn.1 (laws.running t accepted main turn.1) (vec_capacity q.operands) (laws.arrays t accepted main turn.1) h.few
    (h.room c.place-at.result q it.there _ e.level (last-there q e.level e.below e.operands e.pending it.stack))

pub place-index-requires : goal.place-index-requires
place-index-requires c =
    let r = c.requires.turn in
    let e = c.requires.at.operation.levels in
    let it = process-at c.args.self.now c.args.p r.after.2.numbers c.place-at.ensures e.kept c.index-process.ensures in
    let turn = turning c.args.p r.after.2.after e r.running in
    (e.level, e.below, e.operands, e.pending, it.stack, (inside turn.1, top-node turn.1))

-- where it was read
module _ (c : After-as_slice-arrays) where
  abbrev l : Local
  l = c.requires.at.operation.levels.level

  placed : IsPlace c.args.image.now (nodes_of c.args.self.now.frames.nodes) l c.place-index.result.0.now c.place-index.result.1 c.place-index.result.2
  placed =
      let e = c.requires.at.operation.levels in
      let it = process-at c.args.self.now c.args.p c.requires.turn.after.2.numbers c.place-at.ensures e.kept c.index-process.ensures in
      c.place-index.ensures e.level e.below e.operands e.pending it.stack

  arrays : c.as_slice-arrays.result.now ≡ unit_arrays c.args.image.now l.unit
  arrays = c.as_slice-arrays.ensures ∙ placed.code.arrays

pub value_of-requires-clause-frame : goal.value_of-requires-clause-frame
value_of-requires-clause-frame c =
    let at = goal.at.value_of-requires-clause-frame c in
    subst (HasFrame c.args.self.now.frames.arena) (sym (placed at.After-as_slice-arrays).framed) (is-ready at.After-index-process).framed

pub value_of-requires-clause-ready : goal.value_of-requires-clause-ready
value_of-requires-clause-ready c =
    let at = goal.at.value_of-requires-clause-ready c in
    let e = c.requires.at.operation.levels in
    let m = snapshot_of c.args.self.now in
    let arena = c.args.self.now.frames.arena in
    let rows = c.requires.at.ahead in
    let here = subst (IsAheadReady arena (unit_arrays c.args.image.now e.level.unit) (frame_in_arena (frame_under m.nodes e.level.key)) (vec_capacity c.index-process.result.now.operands) e.operands) rows (is-ready at.After-index-process).ahead in
    carry (λ i. IsVariableReady arena (sym (arrays at.After-as_slice-arrays) i) (sym (placed at.After-as_slice-arrays).framed i) [] c.args.answer.variable) here

-- the activation is to end with what was found
to-end : (c : After-as_slice-arrays) → (r : Result Value Kind)
    → r ≡ value_found c.args.self.now.frames.arena.contents (address_of (cells_in c.args.self.now.frames.arena.contents) c.place-index.result.1.first c.as_slice-arrays.result.now c.args.answer.variable [])
    → IsToEndBy c.args.image.now c.args.p c.args.self.now (effect_of_answer c.args.answer.line r)
to-end c r is cells choices h =
    let contents = c.args.self.now.frames.arena.contents in
    let known = running-always c.tops_are_running.ensures.running c.args.image.now c.is_runnable.ensures.accepted c.is_runnable.ensures.main in
    let same = is ∙ (λ j. value_found contents (address_of (cells_in contents) ((placed c).framed j).first (arrays c j) c.args.answer.variable [])) in
    subst (λ v. IsToEnd c.args.image.now cells choices c.args.p (snapshot_of c.args.self.now) (effect_of_answer c.args.answer.line v)) (sym same) (ends-there c.requires.at known h.after c.requires.turn.running)

pub returns-clause-value : goal.returns-clause-value
returns-clause-value c =
    answers-so (IsToEndBy c.args.image.now c.args.p c.args.self.now) c.args.answer.line c.value_of.result (to-end (goal.at.returns-clause-value c).After-as_slice-arrays c.value_of.result c.value_of.ensures)

pub returns-clause-fault : goal.returns-clause-fault
returns-clause-fault c =
    fails-so (IsToEndBy c.args.image.now c.args.p c.args.self.now) c.args.answer.line c.value_of.result (to-end (goal.at.returns-clause-fault c).After-as_slice-arrays c.value_of.result c.value_of.ensures)
