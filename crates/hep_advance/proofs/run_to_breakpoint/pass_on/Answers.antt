use Rattle.std.proofs.Common.{◌≡◌, inl, inr, ℕ, ◌+◌, ◌-◌, ◌<◌, ◌≤◌, true, false, true≢false, refl, sym, ◌∙◌, subst, arith}
use Rattle.hep_state.proofs.OtherProcesses.{beside-shown}
use Rattle.hep_state.proofs.UnchangedStates.{machine-reserved}
use Rattle.hep_state.specs.Words.{HasLivedOn, LivesOn, StaysShown, StepsOn, snapshot_of}
use Rattle.hep_advance.proofs.SilentTurns.{more-made, none-made, one-made}
use Rattle.hep_advance.specs.SilentRuns.{HasNoMoveAhead, MakesMoves}
use Rattle.hep_advance.specs.RunsToBreakpoints.{EndsBefore, PassesTurns}
use Rattle.hep_advance.proofs.RunsToBreakpoint.{lives-again, lives-still, passes-more, passes-none, passes-one}
use Rattle.hep_advance.proofs.run_to_breakpoint.pass_on.Goals.{After-pass_moves-made, After-stands_watched, After-turn_plainly}
use Rattle.hep_advance.proofs.run_to_breakpoint.pass_on.Goals as goal

pub loop-made-init : goal.loop-made-init
loop-made-init c =
    let program = c.args.tabled.now.image.now in
    let machine = c.args.machine.now in
    record {
      gone = none-made program c.args.p machine;
      unwatched = passes-none program c.args.watches.now c.args.p machine;
      lives = record { living = c.requires.turn.turn.living; running = refl; made = refl; counted = omega arith; others = beside-shown c.args.p (snapshot_of machine) (snapshot_of machine) refl };
      few = omega arith;
    }

pub pass_moves-made-requires : goal.pass_moves-made-requires
pass_moves-made-requires c =
    let inv = c.loop-made.invariant in
    let h = c.requires.turn.turn.after in
    let there = inv.gone h.0 h.1 h.2 in
    record { turn = record { after = (h.0, there.0, there.2); running = inv.lives.running ∙ c.requires.turn.turn.running; living = inv.lives.living }; tables = c.requires.turn.tables }

-- ---- with those that only moved it

moved : (c : After-pass_moves-made) → MakesMoves c.args.tabled.now.image.now c.args.p c.args.machine.now (c.loop-made.made + c.pass_moves-made.result) c.pass_moves-made.new.machine
moved c = more-made c.args.tabled.now.image.now c.args.p c.args.machine.now c.loop-made.machine c.pass_moves-made.new.machine c.loop-made.made c.pass_moves-made.result c.loop-made.invariant.gone c.pass_moves-made.ensures.gone

unwatched : (c : After-pass_moves-made) → PassesTurns c.args.tabled.now.image.now c.args.watches.now c.args.p c.args.machine.now (c.loop-made.made + c.pass_moves-made.result)
unwatched c =
    passes-more c.args.tabled.now.image.now c.args.watches.now c.args.p c.args.machine.now c.loop-made.machine c.loop-made.made c.pass_moves-made.result
    c.loop-made.invariant.gone c.loop-made.invariant.unwatched c.pass_moves-made.ensures.unwatched

living : (c : After-pass_moves-made) → LivesOn c.args.p (c.loop-made.made + 0) c.args.machine.now c.pass_moves-made.new.machine
living c = lives-again c.args.p c.loop-made.made 0 c.args.machine.now c.loop-made.machine c.pass_moves-made.new.machine c.loop-made.invariant.lives c.pass_moves-made.ensures.lives

-- more activations than so many
with-more : (p n m : ℕ) (c : After-pass_moves-made) → n ≤ m → LivesOn p n c.args.machine.now c.pass_moves-made.new.machine → LivesOn p m c.args.machine.now c.pass_moves-made.new.machine
with-more p n m c le h = record { living = h.living; running = h.running; made = h.made; counted = omega (arith, h.counted, le); others = h.others }

pub stands_watched-requires-clause-numbers : goal.stands_watched-requires-clause-numbers
stands_watched-requires-clause-numbers c =
    let h = c.requires.turn.turn.after in
    (moved (goal.at.stands_watched-requires-clause-numbers c).After-pass_moves-made h.0 h.1 h.2).2.numbers

pub stands_watched-requires-clause-living : goal.stands_watched-requires-clause-living
stands_watched-requires-clause-living c = (living (goal.at.stands_watched-requires-clause-living c).After-pass_moves-made).living

-- where nothing is watched no plain operation stands ahead
no-move : (c : After-stands_watched) → c.stands_watched.result ≡ false → (fewer : c.pass_moves-made.result < c.args.most - c.loop-made.made)
    → HasNoMoveAhead c.args.tabled.now.image.now c.args.p (snapshot_of c.pass_moves-made.new.machine)
no-move c none fewer = by (c.pass_moves-made.ensures.all fewer) where
  by : EndsBefore c.args.tabled.now.image.now c.args.watches.now c.args.p (snapshot_of c.pass_moves-made.new.machine) → HasNoMoveAhead c.args.tabled.now.image.now c.args.p (snapshot_of c.pass_moves-made.new.machine)
  by (inl before) = absurd (true≢false (sym before.watched ∙ (sym (c.stands_watched.ensures.place before.living) ∙ none)))
  by (inr none) = none

-- the turn that comes next, in front of which no value stands
pub turn_plainly-requires : goal.turn_plainly-requires
turn_plainly-requires c =
    let before = (goal.at.turn_plainly-requires c).After-pass_moves-made in
    let h = c.requires.turn.turn.after in
    let there = moved before h.0 h.1 h.2 in
    let lives = living before in
    let fewer : c.pass_moves-made.result < c.args.most - c.loop-made.made = omega (arith, c.pass_moves-made.ensures.few, c.loop-made-test.true, c.if-made-most.false) in
    let none = no-move (goal.at.turn_plainly-requires c).After-stands_watched c.if-stands_watched.false fewer in
    record {
      settled = record { turn = record { after = (h.0, there.0, there.2); running = lives.running ∙ c.requires.turn.turn.running; living = none.living }; past = none.none.past };
      countable = omega (arith, c.requires.countable, lives.counted, fewer);
    }

-- by whether that was made
stayed : (c : After-turn_plainly) → c.turn_plainly.result ≡ false → StaysShown c.args.tabled.now.image.now c.pass_moves-made.new.machine c.turn_plainly.new.self
stayed c e = subst (λ b. HasLivedOn c.args.tabled.now.image.now c.args.p c.pass_moves-made.new.machine b c.turn_plainly.new.self) e c.turn_plainly.ensures

stepped : (c : After-turn_plainly) → c.turn_plainly.result ≡ true → StepsOn c.args.tabled.now.image.now c.args.p c.pass_moves-made.new.machine c.turn_plainly.new.self
stepped c e = subst (λ b. HasLivedOn c.args.tabled.now.image.now c.args.p c.pass_moves-made.new.machine b c.turn_plainly.new.self) e c.turn_plainly.ensures

-- ---- where it ends

pub returns-then-made-most-clause-gone : goal.returns-then-made-most-clause-gone
returns-then-made-most-clause-gone c = moved (goal.at.returns-then-made-most-clause-gone c).After-pass_moves-made

pub returns-then-made-most-clause-unwatched : goal.returns-then-made-most-clause-unwatched
returns-then-made-most-clause-unwatched c = unwatched (goal.at.returns-then-made-most-clause-unwatched c).After-pass_moves-made

pub returns-then-made-most-clause-lives : goal.returns-then-made-most-clause-lives
returns-then-made-most-clause-lives c =
    let before = (goal.at.returns-then-made-most-clause-lives c).After-pass_moves-made in
    with-more c.args.p (c.loop-made.made + 0) (c.loop-made.made + c.pass_moves-made.result) before (omega arith) (living before)

pub returns-then-stands_watched-clause-gone : goal.returns-then-stands_watched-clause-gone
returns-then-stands_watched-clause-gone c = moved (goal.at.returns-then-stands_watched-clause-gone c).After-pass_moves-made

pub returns-then-stands_watched-clause-unwatched : goal.returns-then-stands_watched-clause-unwatched
returns-then-stands_watched-clause-unwatched c = unwatched (goal.at.returns-then-stands_watched-clause-unwatched c).After-pass_moves-made

pub returns-then-stands_watched-clause-all : goal.returns-then-stands_watched-clause-all
returns-then-stands_watched-clause-all c fewer =
    let living = (living (goal.at.returns-then-stands_watched-clause-all c).After-pass_moves-made).living in
    inl (record { living = living; watched = sym (c.stands_watched.ensures.place living) ∙ c.if-stands_watched.true })

pub returns-then-stands_watched-clause-lives : goal.returns-then-stands_watched-clause-lives
returns-then-stands_watched-clause-lives c =
    let before = (goal.at.returns-then-stands_watched-clause-lives c).After-pass_moves-made in
    with-more c.args.p (c.loop-made.made + 0) (c.loop-made.made + c.pass_moves-made.result) before (omega arith) (living before)

pub returns-then-not-turn_plainly-clause-gone : goal.returns-then-not-turn_plainly-clause-gone
returns-then-not-turn_plainly-clause-gone c cells choices h =
    let turned = (goal.at.returns-then-not-turn_plainly-clause-gone c).After-turn_plainly in
    let stays = stayed turned c.if-not-turn_plainly.true in
    let there = moved (goal.at.After-turn_plainly turned).After-pass_moves-made cells choices h in
    (there.0, there.1, machine-reserved c.args.tabled.now.image.now cells there.0 c.pass_moves-made.new.machine c.turn_plainly.new.self stays.shown (stays.rooms cells) there.2)

pub returns-then-not-turn_plainly-clause-unwatched : goal.returns-then-not-turn_plainly-clause-unwatched
returns-then-not-turn_plainly-clause-unwatched c = unwatched (goal.at.returns-then-not-turn_plainly-clause-unwatched c).After-pass_moves-made

pub returns-then-not-turn_plainly-clause-all : goal.returns-then-not-turn_plainly-clause-all
returns-then-not-turn_plainly-clause-all c fewer =
    let stays = stayed (goal.at.returns-then-not-turn_plainly-clause-all c).After-turn_plainly c.if-not-turn_plainly.true in
    subst (EndsBefore c.args.tabled.now.image.now c.args.watches.now c.args.p) (sym stays.shown) (c.pass_moves-made.ensures.all (omega (arith, fewer)))

pub returns-then-not-turn_plainly-clause-lives : goal.returns-then-not-turn_plainly-clause-lives
returns-then-not-turn_plainly-clause-lives c =
    let turned = (goal.at.returns-then-not-turn_plainly-clause-lives c).After-turn_plainly in
    let before = (goal.at.After-turn_plainly turned).After-pass_moves-made in
    let stays = stayed turned c.if-not-turn_plainly.true in
    let more = with-more c.args.p (c.loop-made.made + 0) (c.loop-made.made + c.pass_moves-made.result) before (omega arith) (living before) in
    let still = lives-still c.args.tabled.now.image.now c.args.p c.pass_moves-made.new.machine c.turn_plainly.new.self more.living stays in
    let same : c.loop-made.made + c.pass_moves-made.result + 0 ≡ c.loop-made.made + c.pass_moves-made.result = omega arith in
    subst (λ n. LivesOn c.args.p n c.args.machine.now c.turn_plainly.new.self) same (
    lives-again c.args.p (c.loop-made.made + c.pass_moves-made.result) 0 c.args.machine.now c.pass_moves-made.new.machine c.turn_plainly.new.self more still)

-- ---- one turn more

pub loop-made-preserved : goal.loop-made-preserved
loop-made-preserved c =
    let turned = (goal.at.loop-made-preserved c).After-turn_plainly in
    let before = (goal.at.After-turn_plainly turned).After-pass_moves-made in
    let program = c.args.tabled.now.image.now in
    let watches = c.args.watches.now in
    let p = c.args.p in
    let old = c.args.machine.now in
    let mid = c.pass_moves-made.new.machine in
    let new = c.turn_plainly.new.self in
    let n = c.loop-made.made + c.pass_moves-made.result in
    let lives = living before in
    let steps = stepped turned c.if-not-turn_plainly.false in
    let more = with-more p (c.loop-made.made + 0) n before (omega arith) lives in
    record {
      gone = more-made program p old mid new n 1 (moved before) (one-made program p mid new (lives.running ∙ c.requires.turn.turn.running) steps);
      unwatched = passes-more program watches p old mid n 1 (moved before) (unwatched before) (passes-one program watches p mid (λ cells choices h.
          c.stands_watched.ensures.unwatched c.if-stands_watched.false (lives.running ∙ c.requires.turn.turn.running) program cells choices h));
      lives = lives-again p n 1 old mid new more steps.lives;
      few = omega (arith, c.pass_moves-made.ensures.few, c.loop-made-test.true, c.if-made-most.false);
    }

-- ---- as many as were asked for

pub returns-clause-gone : goal.returns-clause-gone
returns-clause-gone c = c.loop-made.invariant.gone

pub returns-clause-unwatched : goal.returns-clause-unwatched
returns-clause-unwatched c = c.loop-made.invariant.unwatched

pub returns-clause-few : goal.returns-clause-few
returns-clause-few c = c.loop-made.invariant.few

pub returns-clause-lives : goal.returns-clause-lives
returns-clause-lives c = c.loop-made.invariant.lives
