use Rattle.std.proofs.Common.{rules, ◌≡◌, arith, length}
use Rattle.hep_history.proofs.InRuns.{AreFilled-push, AreRising-push, close_short, short_end}
use Rattle.hep_history.proofs.history.close.Goals as goal
use Rattle.std.proofs.lemmas.List.{nil_from_length}

pub returns-in-Some-clause-runs : goal.returns-in-Some-clause-runs
returns-in-Some-clause-runs c =
    let none : length c.args.longs.now.items ≡ 0 = search rules in
    rw c.put.ensures.items (close_short c.args.shorts.now.items c.args.longs.now.items c.args.closed c.args.run c.in-Some.short (nil_from_length c.args.longs.now.items none) c.requires.rising c.requires.closed c.in-Some.ensures.same)

pub returns-in-Some-clause-rising : goal.returns-in-Some-clause-rising
returns-in-Some-clause-rising c =
    let none : length c.args.longs.now.items ≡ 0 = search rules in
    let ends = short_end c.args.shorts.now.items c.args.longs.now.items c.args.closed (nil_from_length c.args.longs.now.items none) c.requires.rising c.requires.closed in
    rw c.put.ensures.items (AreRising-push 0 c.args.shorts.now.items c.in-Some.short c.requires.rising (omega (arith, ends, c.in-Some.ensures.end, c.requires.some)))

pub returns-clause-filled : goal.returns-clause-filled
returns-clause-filled c = rw c.put_long.ensures.items (AreFilled-push c.args.longs.now.items c.args.run c.requires.filled c.requires.some)
