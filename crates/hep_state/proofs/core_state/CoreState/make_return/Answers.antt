use Rattle.std.proofs.Common.{refl, arith}
use Rattle.hep_state.proofs.Processes.{counted, process-at, some-by}
use Rattle.hep_state.proofs.ReturnTurns.{IsRunningAlways, ends-there, running-always, untouched-there}
use Rattle.hep_state.proofs.UnchangedStates.{rooms-of, turned-so}
use Rattle.hep_state.proofs.core_state.CoreState.make_return.Goals.{After-tops_are_running}
use Rattle.hep_state.proofs.core_state.CoreState.make_return.Goals as goal

pub place-at-requires : goal.place-at-requires
place-at-requires c = record { numbers = c.requires.turn.after.2.numbers; living = c.requires.turn.living }

known : (c : After-tops_are_running) → IsRunningAlways c.args.image.now
known c = running-always c.tops_are_running.ensures.running c.args.image.now c.is_runnable.ensures.accepted c.is_runnable.ensures.main

pub returns-then-len-eq1 : goal.returns-then-len-eq1
returns-then-len-eq1 c = record { shown = refl; made = refl; rooms = λ cells h. h }

pub finish-requires : goal.finish-requires
finish-requires c =
    let laws = known (goal.at.finish-requires c).After-tops_are_running in
    let r = c.requires.turn in
    let h = r.after.2 in
    (c.args.image.now, r.after.0, r.after.1, ends-there c.requires.at.1 laws h.after r.running, h.numbers)

pub returns : goal.returns
returns c =
    let laws = known (goal.at.returns c).After-tops_are_running in
    let program = c.args.image.now in
    let old = c.args.self.now in
    let at = c.requires.at.1 in
    let r = c.requires.turn in
    let e = r.living in
    let seen = process-at old c.args.p r.after.2.numbers c.place-at.ensures e.kept c.index.ensures in
    let many = counted c.index.result.now e.level e.below e.operands e.pending seen.stack c.len.result c.len.ensures in
    let above = some-by e.below c.len.result many c.if-len-eq1.false in
    let lives = c.finish.ensures.lives e above.0 above.1 above.2 in
    record {
      turned = λ cells choices h.
          turned-so program cells choices c.args.p c.finish.new.self (untouched-there at laws h.after r.running)
          (c.finish.ensures.stepped program cells choices (ends-there at laws h.after r.running))
          (c.finish.ensures.rooms program cells (rooms-of program cells choices old h));
      lives = record { living = lives.living; running = lives.running; made = lives.made; counted = omega (arith, lives.counted); others = lives.others };
    }
