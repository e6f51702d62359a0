use Rattle.std.proofs.Common.{◌≡◌, ◌+◌, ◌-◌, ◌<◌, true, false, refl, sym, ap, ◌∙◌, subst, arith}
use Rattle.hep_state.specs.Words.{HasLivedOn, LeavesOthers, Snapshot, StaysShown, StepsOn, snapshot_of}
use Rattle.hep_state.proofs.OtherProcesses.{beside-again, beside-shown}
use Rattle.hep_state.proofs.UnchangedStates.{machine-reserved}
use Rattle.hep_advance.specs.SilentRuns.{HasNoMoveAhead, MakesMoves}
use Rattle.hep_advance.proofs.SilentTurns.{more-made, none-made, one-made}
use Rattle.hep_advance.proofs.silent_run.go_along.Goals.{After-move_on-made, After-turn_plainly}
use Rattle.hep_advance.proofs.silent_run.go_along.Goals as goal

pub loop-made-init : goal.loop-made-init
loop-made-init c =
    record {
      gone = none-made c.args.tabled.now.image.now c.args.p c.args.machine.now;
      living = c.requires.turn.turn.living;
      running = c.requires.turn.turn.running;
      same = refl;
      counted = omega arith;
      few = omega arith;
      others = beside-shown c.args.p (snapshot_of c.args.machine.now) (snapshot_of c.args.machine.now) refl;
    }

pub move_on-made-requires : goal.move_on-made-requires
move_on-made-requires c =
    let inv = c.loop-made.invariant in
    let h = c.requires.turn.turn.after in
    let there = inv.gone h.0 h.1 h.2 in
    record { turn = record { after = (h.0, there.0, there.2); running = inv.running; living = inv.living }; tables = c.requires.turn.tables }

-- so many turns, with those that only moved it
moved : (c : After-move_on-made) → MakesMoves c.args.tabled.now.image.now c.args.p c.args.machine.now (c.loop-made.made + c.move_on-made.result) c.move_on-made.new.machine
moved c = more-made c.args.tabled.now.image.now c.args.p c.args.machine.now c.loop-made.machine c.move_on-made.new.machine c.loop-made.made c.move_on-made.result c.loop-made.invariant.gone c.move_on-made.ensures.gone

-- the others stand where they stood
beside-moved : (c : After-move_on-made) → LeavesOthers c.args.p (snapshot_of c.args.machine.now) (snapshot_of c.move_on-made.new.machine)
beside-moved c =
    beside-again c.args.p (snapshot_of c.args.machine.now) (snapshot_of c.loop-made.machine) (snapshot_of c.move_on-made.new.machine) c.loop-made.invariant.others c.move_on-made.ensures.lives.others

-- the turn that comes next, in front of which no value stands
pub turn_plainly-requires : goal.turn_plainly-requires
turn_plainly-requires c =
    let before = (goal.at.turn_plainly-requires c).After-move_on-made in
    let inv = c.loop-made.invariant in
    let h = c.requires.turn.turn.after in
    let there = moved before h.0 h.1 h.2 in
    let fewer : c.move_on-made.result < c.args.most - c.loop-made.made = omega (arith, c.move_on-made.ensures.few, c.loop-made-test.true, c.if-made-most.false) in
    let none = c.move_on-made.ensures.all fewer in
    let lives = c.move_on-made.ensures.lives in
    record {
      settled = record { turn = record { after = (h.0, there.0, there.2); running = lives.running ∙ inv.running; living = none.living }; past = none.none.past };
      countable = omega (arith, c.requires.countable, inv.counted, lives.counted, fewer);
    }

-- by whether that was made
stayed : (c : After-turn_plainly) → c.turn_plainly.result ≡ false → StaysShown c.args.tabled.now.image.now c.move_on-made.new.machine c.turn_plainly.new.self
stayed c e = subst (λ b. HasLivedOn c.args.tabled.now.image.now c.args.p c.move_on-made.new.machine b c.turn_plainly.new.self) e c.turn_plainly.ensures

stepped : (c : After-turn_plainly) → c.turn_plainly.result ≡ true → StepsOn c.args.tabled.now.image.now c.args.p c.move_on-made.new.machine c.turn_plainly.new.self
stepped c e = subst (λ b. HasLivedOn c.args.tabled.now.image.now c.args.p c.move_on-made.new.machine b c.turn_plainly.new.self) e c.turn_plainly.ensures

-- ---- where it ends

pub returns-then-made-most-clause-gone : goal.returns-then-made-most-clause-gone
returns-then-made-most-clause-gone c = moved (goal.at.returns-then-made-most-clause-gone c).After-move_on-made

pub returns-then-made-most-clause-made : goal.returns-then-made-most-clause-made
returns-then-made-most-clause-made c = c.move_on-made.ensures.lives.made ∙ c.loop-made.invariant.same

pub returns-then-made-most-clause-halted : goal.returns-then-made-most-clause-halted
returns-then-made-most-clause-halted c = c.move_on-made.ensures.lives.running ∙ c.loop-made.invariant.running

pub returns-then-made-most-clause-others : goal.returns-then-made-most-clause-others
returns-then-made-most-clause-others c = beside-moved (goal.at.returns-then-made-most-clause-others c).After-move_on-made

pub returns-then-not-turn_plainly-clause-others : goal.returns-then-not-turn_plainly-clause-others
returns-then-not-turn_plainly-clause-others c =
    let turned = (goal.at.returns-then-not-turn_plainly-clause-others c).After-turn_plainly in
    let before = (goal.at.After-turn_plainly turned).After-move_on-made in
    let stays = stayed turned c.if-not-turn_plainly.true in
    let mid = snapshot_of c.move_on-made.new.machine in
    beside-again c.args.p (snapshot_of c.args.machine.now) mid (snapshot_of c.turn_plainly.new.self) (beside-moved before) (beside-shown c.args.p mid (snapshot_of c.turn_plainly.new.self) stays.shown)

pub returns-then-not-turn_plainly-clause-gone : goal.returns-then-not-turn_plainly-clause-gone
returns-then-not-turn_plainly-clause-gone c cells choices h =
    let turned = (goal.at.returns-then-not-turn_plainly-clause-gone c).After-turn_plainly in
    let stays = stayed turned c.if-not-turn_plainly.true in
    let there = moved (goal.at.After-turn_plainly turned).After-move_on-made cells choices h in
    (there.0, there.1, machine-reserved c.args.tabled.now.image.now cells there.0 c.move_on-made.new.machine c.turn_plainly.new.self stays.shown (stays.rooms cells) there.2)

pub returns-then-not-turn_plainly-clause-all : goal.returns-then-not-turn_plainly-clause-all
returns-then-not-turn_plainly-clause-all c fewer =
    let stays = stayed (goal.at.returns-then-not-turn_plainly-clause-all c).After-turn_plainly c.if-not-turn_plainly.true in
    subst (HasNoMoveAhead c.args.tabled.now.image.now c.args.p) (sym stays.shown) (c.move_on-made.ensures.all (omega (arith, fewer)))

pub returns-then-not-turn_plainly-clause-made : goal.returns-then-not-turn_plainly-clause-made
returns-then-not-turn_plainly-clause-made c = (stayed (goal.at.returns-then-not-turn_plainly-clause-made c).After-turn_plainly c.if-not-turn_plainly.true).made ∙ (c.move_on-made.ensures.lives.made ∙ c.loop-made.invariant.same)

pub returns-then-not-turn_plainly-clause-halted : goal.returns-then-not-turn_plainly-clause-halted
returns-then-not-turn_plainly-clause-halted c =
    let stays = stayed (goal.at.returns-then-not-turn_plainly-clause-halted c).After-turn_plainly c.if-not-turn_plainly.true in
    ap (λ (m : Snapshot). m.halted) stays.shown ∙ (c.move_on-made.ensures.lives.running ∙ c.loop-made.invariant.running)

-- ---- one turn more

pub loop-made-preserved : goal.loop-made-preserved
loop-made-preserved c =
    let turned = (goal.at.loop-made-preserved c).After-turn_plainly in
    let before = (goal.at.After-turn_plainly turned).After-move_on-made in
    let inv = c.loop-made.invariant in
    let program = c.args.tabled.now.image.now in
    let lives = c.move_on-made.ensures.lives in
    let steps = stepped turned c.if-not-turn_plainly.false in
    let running = lives.running ∙ inv.running in
    record {
      gone = more-made program c.args.p c.args.machine.now c.move_on-made.new.machine c.turn_plainly.new.self (c.loop-made.made + c.move_on-made.result) 1 (moved before) (one-made program c.args.p c.move_on-made.new.machine c.turn_plainly.new.self running steps);
      living = steps.lives.living;
      running = steps.lives.running ∙ running;
      same = steps.lives.made ∙ (lives.made ∙ inv.same);
      counted = omega (arith, steps.lives.counted, lives.counted, inv.counted);
      few = omega (arith, c.move_on-made.ensures.few, c.loop-made-test.true, c.if-made-most.false);
      others = beside-again c.args.p (snapshot_of c.args.machine.now) (snapshot_of c.move_on-made.new.machine) (snapshot_of c.turn_plainly.new.self) (beside-moved before) steps.lives.others;
    }

-- ---- as many as were asked for

pub returns-clause-gone : goal.returns-clause-gone
returns-clause-gone c = c.loop-made.invariant.gone

pub returns-clause-few : goal.returns-clause-few
returns-clause-few c = c.loop-made.invariant.few

pub returns-clause-made : goal.returns-clause-made
returns-clause-made c = c.loop-made.invariant.same

pub returns-clause-halted : goal.returns-clause-halted
returns-clause-halted c = c.loop-made.invariant.running

pub returns-clause-others : goal.returns-clause-others
returns-clause-others c = c.loop-made.invariant.others
