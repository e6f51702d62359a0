use Rattle.std.proofs.Common.{◌≡◌, ◌≢◌, ℕ, zero, suc, false, Ok, refl, inl, inr, arith}
use Rattle.hep_machine.specs.declared.event.Entry.{Entry}
use Rattle.hep_core.specs.CoreValues.{CoreValue}
use Rattle.hep_replay.specs.Progress.{AreMade, EntryMade, SomeMade, begun}
use Rattle.hep_replay.proofs.ReplayTurns.{joined, still_standing}
use Rattle.hep_replay.proofs.history_replay.make_run.Goals as goal

-- none was made
none_made : (old : CoreValue) (e : Entry) (n : ℕ) (new : CoreValue) → n ≡ 0 → SomeMade old e (Ok n) new → EntryMade old e (Ok false) new
none_made old e zero new none made = made
none_made old e (suc n) new none made = absurd (omega (arith, none))

-- some were
some_made : (old : CoreValue) (e : Entry) (n : ℕ) (new : CoreValue) → n ≢ 0 → SomeMade old e (Ok n) new → AreMade e old n new
some_made old e zero new some made = absurd (some refl)
some_made old e (suc n) new some made = made

pub loop-made-init : goal.loop-made-init
loop-made-init c = record { few = omega arith; before = begun c.args.core.now.core; standing = c.requires.standing; within = c.requires.within }

pub returns-then-more-eq0-clause-made : goal.returns-then-more-eq0-clause-made
returns-then-more-eq0-clause-made c =
    inr (record {
      core = c.loop-made.core.core;
      fewer = c.loop-made-test.true;
      before = c.loop-made.invariant.before;
      gaps = c.headline.ensures.legal.room;
      refused = none_made c.loop-made.core.core c.args.entry c.in_ok-more.more c.make_some.new.core.core c.if-more-eq0.true c.in_ok-more.ensures.made;
    })

pub loop-made-preserved : goal.loop-made-preserved
loop-made-preserved c =
    let more = some_made c.loop-made.core.core c.args.entry c.in_ok-more.more c.make_some.new.core.core c.if-more-eq0.false c.in_ok-more.ensures.made in
    let still = still_standing c.args.entry c.loop-made.core.core c.in_ok-more.more c.make_some.new.core.core more c.loop-made.invariant.standing c.loop-made.invariant.within in
    record {
      few = omega (arith, c.in_ok-more.ensures.few);
      before = joined c.args.entry c.args.core.now.core c.loop-made.made c.in_ok-more.more c.loop-made.core.core c.make_some.new.core.core c.loop-made.invariant.before more;
      standing = still.0;
      within = still.1;
    }

pub returns-clause-made : goal.returns-clause-made
returns-clause-made c = inl (omega arith, c.loop-made.invariant.before)
