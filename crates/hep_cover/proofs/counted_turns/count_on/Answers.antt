use Rattle.std.proofs.Common.{◌≡◌, ℕ, ◌+◌, ◌-◌, ◌<◌, ◌≤◌, true, false, refl, sym, ◌∙◌, subst, arith}
use Rattle.hep_machine.specs.Words.{run}
use Rattle.hep_state.proofs.OtherProcesses.{beside-shown}
use Rattle.hep_state.proofs.UnchangedStates.{machine-reserved}
use Rattle.hep_state.specs.Words.{HasLivedOn, LivesOn, StaysShown, StepsOn, snapshot_of}
use Rattle.hep_advance.proofs.SilentTurns.{more-made, none-made, one-made}
use Rattle.hep_advance.specs.SilentRuns.{CanTakeTurns, HasNoMoveAhead, MakesMoves}
use Rattle.hep_cover.specs.CountedRuns.{CountsTurns}
use Rattle.hep_advance.proofs.RunsToBreakpoint.{lives-again, lives-still}
use Rattle.hep_cover.proofs.CountedSteps.{counted-one, counts-more, counts-none}
use Rattle.hep_cover.proofs.counted_turns.count_on.Goals.{After-count_moves-made, After-turn_plainly}
use Rattle.hep_cover.proofs.counted_turns.count_on.Goals as goal

pub loop-made-init : goal.loop-made-init
loop-made-init c =
    let program = c.args.marked.now.tabled.image.now in
    let machine = c.args.machine.now in
    record {
      gone = none-made program c.args.p machine;
      counted = counts-none program c.args.marked.now.operations.now c.args.p machine c.args.counts.now.items;
      lives = record {
        living = c.requires.turn.turn.living;
        running = refl;
        made = refl;
        counted = omega arith;
        others = beside-shown c.args.p (snapshot_of machine) (snapshot_of machine) refl;
      };
      few = omega arith;
    }

pub count_moves-made-requires : goal.count_moves-made-requires
count_moves-made-requires c =
    let inv = c.loop-made.invariant in
    let h = c.requires.turn.turn.after in
    let there = inv.gone h.0 h.1 h.2 in
    record {
      turn = record {
        turn = record { after = (h.0, there.0, there.2); running = inv.lives.running ∙ c.requires.turn.turn.running; living = inv.lives.living };
        tables = c.requires.turn.tables;
      };
      marks = c.requires.marks;
    }

-- ---- with those that only moved it

moved : (c : After-count_moves-made)
    → MakesMoves c.args.marked.now.tabled.image.now c.args.p c.args.machine.now
    (c.loop-made.made + c.count_moves-made.result) c.count_moves-made.new.machine
moved c =
    more-made c.args.marked.now.tabled.image.now c.args.p c.args.machine.now c.loop-made.machine c.count_moves-made.new.machine
    c.loop-made.made c.count_moves-made.result c.loop-made.invariant.gone c.count_moves-made.ensures.gone

counted : (c : After-count_moves-made)
    → CountsTurns c.args.marked.now.tabled.image.now c.args.marked.now.operations.now c.args.p c.args.machine.now
    c.args.counts.now.items (c.loop-made.made + c.count_moves-made.result) c.count_moves-made.new.counts.items
counted c =
    counts-more c.args.marked.now.tabled.image.now c.args.marked.now.operations.now c.args.p c.args.machine.now c.loop-made.machine
    c.loop-made.made c.count_moves-made.result c.args.counts.now.items c.loop-made.counts.items c.count_moves-made.new.counts.items
    c.loop-made.invariant.gone c.loop-made.invariant.counted c.count_moves-made.ensures.counted

living : (c : After-count_moves-made) → LivesOn c.args.p (c.loop-made.made + 0) c.args.machine.now c.count_moves-made.new.machine
living c =
    lives-again c.args.p c.loop-made.made 0 c.args.machine.now c.loop-made.machine
    c.count_moves-made.new.machine c.loop-made.invariant.lives c.count_moves-made.ensures.lives

-- more activations than so many
with-more : (p n m : ℕ) (c : After-count_moves-made) → n ≤ m → LivesOn p n c.args.machine.now c.count_moves-made.new.machine
    → LivesOn p m c.args.machine.now c.count_moves-made.new.machine
with-more p n m c le h =
    record { living = h.living; running = h.running; made = h.made; counted = omega (arith, h.counted, le); others = h.others }

-- it is the turn of p still
turn-now : (c : After-count_moves-made) → CanTakeTurns c.args.marked.now.tabled c.args.p c.count_moves-made.new.machine
turn-now c =
    let h = c.requires.turn.turn.after in
    let there = moved c h.0 h.1 h.2 in
    let lives = living c in
    record { turn = record { after = (h.0, there.0, there.2); running = lives.running ∙ c.requires.turn.turn.running; living = lives.living }; tables = c.requires.turn.tables }

pub begun-line-requires-clause-turn : goal.begun-line-requires-clause-turn
begun-line-requires-clause-turn c = (turn-now (goal.at.begun-line-requires-clause-turn c).After-count_moves-made).turn

pub begun-line-requires-clause-marks : goal.begun-line-requires-clause-marks
begun-line-requires-clause-marks c = (c.args.marked.now.operations.now, c.requires.marks)

-- the turn that comes next, in front of which no value stands
pub turn_plainly-requires : goal.turn_plainly-requires
turn_plainly-requires c =
    let before = (goal.at.turn_plainly-requires c).After-count_moves-made in
    let h = c.requires.turn.turn.after in
    let there = moved before h.0 h.1 h.2 in
    let lives = living before in
    let fewer : c.count_moves-made.result < c.args.most - c.loop-made.made =
    omega (arith, c.count_moves-made.ensures.few, c.loop-made-test.true, c.if-made-most.false) in
    let none = c.count_moves-made.ensures.all fewer in
    record {
      settled = record {
        turn = record { after = (h.0, there.0, there.2); running = lives.running ∙ c.requires.turn.turn.running; living = none.living };
        past = none.none.past;
      };
      countable = omega (arith, c.requires.countable, lives.counted, fewer);
    }

-- by whether that was made
stayed : (c : After-turn_plainly) → c.turn_plainly.result ≡ false
    → StaysShown c.args.marked.now.tabled.image.now c.count_moves-made.new.machine c.turn_plainly.new.self
stayed c e =
    subst
    (λ b. HasLivedOn c.args.marked.now.tabled.image.now c.args.p c.count_moves-made.new.machine b c.turn_plainly.new.self)
    e c.turn_plainly.ensures

stepped : (c : After-turn_plainly) → c.turn_plainly.result ≡ true
    → StepsOn c.args.marked.now.tabled.image.now c.args.p c.count_moves-made.new.machine c.turn_plainly.new.self
stepped c e =
    subst
    (λ b. HasLivedOn c.args.marked.now.tabled.image.now c.args.p c.count_moves-made.new.machine b c.turn_plainly.new.self)
    e c.turn_plainly.ensures

-- ---- where it ends

pub returns-then-made-most-clause-gone : goal.returns-then-made-most-clause-gone
returns-then-made-most-clause-gone c = moved (goal.at.returns-then-made-most-clause-gone c).After-count_moves-made

pub returns-then-made-most-clause-counted : goal.returns-then-made-most-clause-counted
returns-then-made-most-clause-counted c = counted (goal.at.returns-then-made-most-clause-counted c).After-count_moves-made

pub returns-then-made-most-clause-lives : goal.returns-then-made-most-clause-lives
returns-then-made-most-clause-lives c =
    let before = (goal.at.returns-then-made-most-clause-lives c).After-count_moves-made in
    with-more c.args.p (c.loop-made.made + 0) (c.loop-made.made + c.count_moves-made.result) before (omega arith) (living before)

pub returns-then-not-turn_plainly-clause-gone : goal.returns-then-not-turn_plainly-clause-gone
returns-then-not-turn_plainly-clause-gone c cells choices h =
    let turned = (goal.at.returns-then-not-turn_plainly-clause-gone c).After-turn_plainly in
    let stays = stayed turned c.if-not-turn_plainly.true in
    let there = moved (goal.at.After-turn_plainly turned).After-count_moves-made cells choices h in
    (there.0, there.1, machine-reserved c.args.marked.now.tabled.image.now cells there.0 c.count_moves-made.new.machine c.turn_plainly.new.self stays.shown (stays.rooms cells) there.2)

pub returns-then-not-turn_plainly-clause-counted : goal.returns-then-not-turn_plainly-clause-counted
returns-then-not-turn_plainly-clause-counted c = counted (goal.at.returns-then-not-turn_plainly-clause-counted c).After-count_moves-made

pub returns-then-not-turn_plainly-clause-all : goal.returns-then-not-turn_plainly-clause-all
returns-then-not-turn_plainly-clause-all c fewer =
    let stays = stayed (goal.at.returns-then-not-turn_plainly-clause-all c).After-turn_plainly c.if-not-turn_plainly.true in
    subst (HasNoMoveAhead c.args.marked.now.tabled.image.now c.args.p) (sym stays.shown)
    (c.count_moves-made.ensures.all (omega (arith, fewer)))

pub returns-then-not-turn_plainly-clause-lives : goal.returns-then-not-turn_plainly-clause-lives
returns-then-not-turn_plainly-clause-lives c =
    let turned = (goal.at.returns-then-not-turn_plainly-clause-lives c).After-turn_plainly in
    let before = (goal.at.After-turn_plainly turned).After-count_moves-made in
    let stays = stayed turned c.if-not-turn_plainly.true in
    let more =
    with-more c.args.p (c.loop-made.made + 0) (c.loop-made.made + c.count_moves-made.result) before (omega arith) (living before) in
    let still =
    lives-still c.args.marked.now.tabled.image.now c.args.p c.count_moves-made.new.machine c.turn_plainly.new.self more.living stays in
    let same : c.loop-made.made + c.count_moves-made.result + 0 ≡ c.loop-made.made + c.count_moves-made.result = omega arith in
    subst (λ n. LivesOn c.args.p n c.args.machine.now c.turn_plainly.new.self) same (
    lives-again c.args.p (c.loop-made.made + c.count_moves-made.result) 0 c.args.machine.now
    c.count_moves-made.new.machine c.turn_plainly.new.self more still)

-- ---- one turn more

pub loop-made-preserved : goal.loop-made-preserved
loop-made-preserved c =
    let turned = (goal.at.loop-made-preserved c).After-turn_plainly in
    let before = (goal.at.After-turn_plainly turned).After-count_moves-made in
    let program = c.args.marked.now.tabled.image.now in
    let operations = c.args.marked.now.operations.now in
    let p = c.args.p in
    let old = c.args.machine.now in
    let mid = c.count_moves-made.new.machine in
    let new = c.turn_plainly.new.self in
    let n = c.loop-made.made + c.count_moves-made.result in
    let lives = living before in
    let steps = stepped turned c.if-not-turn_plainly.false in
    let more = with-more p (c.loop-made.made + 0) n before (omega arith) lives in
    record {
      gone = more-made program p old mid new n 1 (moved before)
          (one-made program p mid new (lives.running ∙ c.requires.turn.turn.running) steps);
      counted = counts-more program operations p old mid n 1 c.args.counts.now.items c.count_moves-made.new.counts.items c.count.new.counts.items (moved before) (counted before) (λ cells choices h apart entry.
          counted-one program operations (run program choices) entry p
          c.count_moves-made.new.counts.items c.count.new.counts.items c.begun-line.result
          (c.begun-line.ensures operations c.requires.marks cells choices h) c.count.ensures);
      lives = lives-again p n 1 old mid new more steps.lives;
      few = omega (arith, c.count_moves-made.ensures.few, c.loop-made-test.true, c.if-made-most.false);
    }

-- ---- as many as were asked for

pub returns-clause-gone : goal.returns-clause-gone
returns-clause-gone c = c.loop-made.invariant.gone

pub returns-clause-counted : goal.returns-clause-counted
returns-clause-counted c = c.loop-made.invariant.counted

pub returns-clause-few : goal.returns-clause-few
returns-clause-few c = c.loop-made.invariant.few

pub returns-clause-lives : goal.returns-clause-lives
returns-clause-lives c = c.loop-made.invariant.lives
