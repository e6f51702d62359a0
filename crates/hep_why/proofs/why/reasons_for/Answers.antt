use Rattle.std.proofs.lemmas.Option.{slice_get-get_or}
use Rattle.hep_why.proofs.why.reasons_for.Goals as goal

pub reason_for-requires-clause-waits : goal.reason_for-requires-clause-waits
reason_for-requires-clause-waits c =
    c.requires c.loop-watch.watch-index _ (slice_get-get_or c.args.watches.now c.loop-watch.watch-index _ c.loop-watch-test.true)
