use Rattle.std.proofs.Common.{Some, ap, sym, ◌∙◌}
use Rattle.hep_history.proofs.InRuns.{long_here, long_past}
use Rattle.hep_history.proofs.entry_lookup.long_at.Goals as goal

pub returns-then-left-run : goal.returns-then-left-run
returns-then-left-run c =
    ap (λ e. Some e) c.entry.ensures
    ∙ sym (c.loop-run.invariant ∙ long_here c.args.longs.now c.loop-run.run-index c.loop-run.left c.loop-run-test.true c.if-left-run.true)

pub loop-run-preserved : goal.loop-run-preserved
loop-run-preserved c =
    c.loop-run.invariant ∙ long_past c.args.longs.now c.loop-run.run-index c.loop-run.left c.loop-run-test.true c.if-left-run.false
