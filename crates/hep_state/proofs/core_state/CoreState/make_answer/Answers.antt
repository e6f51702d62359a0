use Rattle.std.proofs.Common.{refl, arith}
use Rattle.hep_state.proofs.Processes.{counted, process-at, some-by}
use Rattle.hep_state.proofs.ReturnTurns.{answer-untouched, running-always}
use Rattle.hep_state.proofs.UnchangedStates.{rooms-of, turned-so}
use Rattle.hep_state.proofs.core_state.CoreState.make_answer.Goals as goal

pub place-at-requires : goal.place-at-requires
place-at-requires c = record { numbers = c.requires.turn.after.2.numbers; living = c.requires.turn.living }

pub returns-then-len-eq1 : goal.returns-then-len-eq1
returns-then-len-eq1 c = record { shown = refl; made = refl; rooms = λ cells h. h }

pub answer-requires : goal.answer-requires
answer-requires c = c.requires

pub returns-in_default : goal.returns-in_default
returns-in_default c = record { shown = refl; made = refl; rooms = λ cells h. h }

pub hand_down-requires : goal.hand_down-requires
hand_down-requires c =
    let h = c.requires.turn.after in
    (c.args.image.now, h.0, h.1, c.in-Ok.ensures.value h.0 h.1 h.2, rooms-of c.args.image.now h.0 h.1 c.args.self.now h.2)

pub returns : goal.returns
returns c =
    let program = c.args.image.now in
    let old = c.args.self.now in
    let r = c.requires.turn in
    let e = r.living in
    let known = running-always c.tops_are_running.ensures.running program c.is_runnable.ensures.accepted c.is_runnable.ensures.main in
    let seen = process-at old c.args.p r.after.2.numbers c.place-at.ensures e.kept c.index.ensures in
    let many = counted c.index.result.now e.level e.below e.operands e.pending seen.stack c.len.result c.len.ensures in
    let above = some-by e.below c.len.result many c.if-len-eq1.false in
    let lives = c.hand_down.ensures.lives e above.0 above.1 above.2 in
    record {
      turned = λ cells choices h.
          turned-so program cells choices c.args.p c.hand_down.new.self (answer-untouched c.requires.at known h.after r.running)
          (c.hand_down.ensures.stepped program cells choices (c.in-Ok.ensures.value cells choices h))
          (c.hand_down.ensures.rooms program cells (rooms-of program cells choices old h));
      lives = record { living = lives.living; running = lives.running; made = lives.made; counted = omega (arith, lives.counted); others = lives.others };
    }
