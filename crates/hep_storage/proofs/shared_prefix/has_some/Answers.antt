use Rattle.hep_storage.proofs.SharedRuns.{some-place}
use Rattle.hep_storage.proofs.shared_prefix.has_some.Goals as goal

pub returns-then-run-gt0 : goal.returns-then-run-gt0
returns-then-run-gt0 c = some-place c.args.runs.now c.loop-run.run-index _ _ c.loop-run-test.true c.loop-run.invariant c.if-run-gt0.true
