use Rattle.std.proofs.Common.{◌≡◌, drop, ap, ◌∙◌, arith}
use Rattle.hep_proc.specs.declared.process.Local.{Local}
use Rattle.hep_state.proofs.Processes.{process-at, some-levels-at}
use Rattle.hep_state.proofs.TakenTurns.{inside}
use Rattle.hep_state.proofs.TopActivations.{turning}
use Rattle.hep_state.specs.Words.{turn_with}
use Rattle.hep_step.specs.Simulation.{unit_code}
use Rattle.hep_cover.specs.StartMarks.{mark, mark_at}
use Rattle.hep_cover.proofs.StartMarks.{begun-is, mark-there}
use Rattle.hep_cover.proofs.counted_turns.begun.Goals as goal

pub place-at-requires : goal.place-at-requires
place-at-requires c = record { numbers = c.requires.turn.after.2.numbers; living = c.requires.turn.living }

pub top-level-requires : goal.top-level-requires
top-level-requires c =
    let turn = c.requires.turn in
    some-levels-at (process-at c.args.machine.now c.args.p turn.after.2.numbers c.place-at.ensures turn.living.kept c.index.ensures)

pub lines_of-requires : goal.lines_of-requires
lines_of-requires c =
    let e = c.requires.turn.living in
    let h = c.requires.turn.after in
    let it = process-at c.args.machine.now c.args.p h.2.numbers c.place-at.ensures e.kept c.index.ensures in
    let turn = turning c.args.p h.2.after e c.requires.turn.running in
    let unit : c.top-level.result.unit ≡ e.level.unit =
    ap (λ (l : Local). l.unit) (c.top-level.ensures e.level e.below e.operands e.pending it.stack) in
    let within = inside turn.1 in
    omega (arith, unit, within, c.requires.marks.1.count)

pub returns : goal.returns
returns c operations are cells choices h =
    let program = c.args.image.now in
    let e = c.requires.turn.living in
    let it = process-at c.args.machine.now c.args.p c.requires.turn.after.2.numbers c.place-at.ensures e.kept c.index.ensures in
    let turn = turning c.args.p h.after e c.requires.turn.running in
    let t = turn_with program cells choices e turn.0 in
    let level : c.top-level.result ≡ e.level = c.top-level.ensures e.level e.below e.operands e.pending it.stack in
    c.mark_at.ensures
    ∙ (λ i. mark_at (c.lines_of.ensures program operations are i) c.top-level.result.index)
    ∙ mark-there operations (unit_code program c.top-level.result.unit) c.top-level.result.index
    ∙ ap (λ (l : Local). mark operations (drop l.index (unit_code program l.unit))) level
    ∙ begun-is t turn.1 operations
