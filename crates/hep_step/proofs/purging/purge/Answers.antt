use Rattle.std.proofs.Common.{sym, subst, arith}
use Rattle.std.proofs.lemmas.List.{drop_more}
use Rattle.hep_arena.specs.Holes.{IsOut}
use Rattle.hep_step.specs.declared.closed_range.ClosedRange.{ClosedRange}
use Rattle.hep_step.specs.PurgeReady.{AreReached}
use Rattle.hep_step.proofs.purging.purge.Goals as goal

pub purge_range-requires-clause-reached : goal.purge_range-requires-clause-reached
purge_range-requires-clause-reached c =
    let ranges = c.args.ranges.now in
    let none : ClosedRange = record { first = 0; cells = 0 } in
    let before = (subst (AreReached c.args.arena.now) (drop_more ranges c.loop-range.range-index none c.loop-range-test.true) c.loop-range.invariant.reached).0 in
    record {
      inside = omega (arith, before.inside, c.loop-range.invariant.cells);
      out = λ p from to. subst (IsOut p) (sym c.loop-range.invariant.holes) (before.out p from to);
    }
