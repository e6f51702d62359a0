use Rattle.std.proofs.Common.{ℕ, ◌≡◌, ◌+◌, ◌-◌, ◌/◌, ◌<◌, Some, ap, sym, ◌∙◌, arith, length}
use Rattle.hep_history.proofs.InRuns.{end_of_shorts-take, short_found, short_none}
use Rattle.hep_history.proofs.entry_lookup.short_at.Goals as goal

pub loop-low-preserved-then-shorts-middle : goal.loop-low-preserved-then-shorts-middle
loop-low-preserved-then-shorts-middle c =
    let middle : ℕ = c.loop-low.low + (c.loop-low.high - c.loop-low.low) / 2 in
    let less : c.loop-low.low < c.loop-low.high = c.loop-low-test.true in
    let below : middle < c.loop-low.high = omega arith in
    let within : middle < length c.args.shorts.now = omega (arith, below, c.loop-low.invariant.within) in
    record {
      ordered = omega (arith, below);
      within = c.loop-low.invariant.within;
      before = rw (end_of_shorts-take 0 middle c.args.shorts.now within) c.if-shorts-middle.true;
      here = c.loop-low.invariant.here;
    }

pub returns-then-low-shorts : goal.returns-then-low-shorts
returns-then-low-shorts c =
    sym (short_none c.args.shorts.now c.args.index c.loop-low.low c.requires (omega (arith, c.if-low-shorts.true)) c.loop-low.invariant.before)

pub returns : goal.returns
returns c =
    let same : c.loop-low.high ≡ c.loop-low.low = omega (arith, c.loop-low-test.false, c.loop-low.invariant.ordered) in
    let within : c.loop-low.low < length c.args.shorts.now = omega (arith, same, c.if-low-shorts.false, c.loop-low.invariant.within) in
    ap (λ e. Some e) c.entry.ensures
    ∙ sym (short_found c.args.shorts.now c.args.index c.loop-low.low c.loop-low.high c.requires same within c.loop-low.invariant.before c.loop-low.invariant.here)
