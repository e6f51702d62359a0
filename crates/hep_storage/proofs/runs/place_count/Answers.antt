use Rattle.std.proofs.Common.{arith}
use Rattle.hep_storage.proofs.CommonPrefixes.{count-turn}
use Rattle.hep_storage.proofs.runs.place_count.Goals as goal

pub loop-run-preserved : goal.loop-run-preserved
loop-run-preserved c =
    (count-turn c.args.runs.now c.loop-run.run-index _ c.from-count.result c.loop-run.count _ c.loop-run-test.true c.loop-run.invariant.0 c.from-count.ensures, omega arith)
