use Rattle.std.proofs.Common.{◌≡◌, ◌<◌, drop, length, sym, ap, ◌∙◌, subst}
use Rattle.hep_step.specs.Simulation.{unit_code}
use Rattle.hep_proc.specs.declared.process.Local.{Local}
use Rattle.hep_state.specs.Words.{IsInFront}
use Rattle.hep_state.proofs.NextSteps.{found-ahead}
use Rattle.hep_state.proofs.Processes.{process-at, some-levels-at}
use Rattle.hep_state.proofs.TakenTurns.{inside}
use Rattle.hep_state.proofs.TopActivations.{turning}
use Rattle.hep_state.proofs.UnchangedStates.{carry}
use Rattle.hep_state.proofs.core_state.CoreState.ahead_now.Goals as goal

pub place-at-requires : goal.place-at-requires
place-at-requires c = record { numbers = c.requires.turn.after.2.numbers; living = c.requires.turn.living }

pub top-unit-requires : goal.top-unit-requires
top-unit-requires c = some-levels-at (process-at c.args.self.now c.args.p c.requires.turn.after.2.numbers c.place-at.ensures c.requires.turn.living.kept c.index.ensures)

pub unit-requires : goal.unit-requires
unit-requires c =
    let r = c.requires.turn in
    let e = r.living in
    let it = process-at c.args.self.now c.args.p r.after.2.numbers c.place-at.ensures e.kept c.index.ensures in
    let turn = turning c.args.p r.after.2.after e r.running in
    subst (λ (l : Local). l.unit < length c.args.image.now) (sym (c.top-unit.ensures e.level e.below e.operands e.pending it.stack)) (inside turn.1)

pub returns : goal.returns
returns c =
    let program = c.args.image.now in
    let r = c.requires.turn in
    let e = r.living in
    let it = process-at c.args.self.now c.args.p r.after.2.numbers c.place-at.ensures e.kept c.index.ensures in
    let top : c.top-unit.result ≡ e.level = c.top-unit.ensures e.level e.below e.operands e.pending it.stack in
    let code : c.as_slice.result.now ≡ unit_code program e.level.unit = c.as_slice.ensures ∙ (c.unit.ensures.code ∙ ap (λ (l : Local). unit_code program l.unit) top) in
    let found = carry (λ i. IsInFront (top i).index (drop (top i).index (code i)) c.ahead_at.result) c.ahead_at.ensures in
    found-ahead program c.args.self.now e (λ cells choices h. turning c.args.p h.after e r.running) c.requires.past c.ahead_at.result found
