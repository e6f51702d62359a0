use Rattle.std.proofs.Common.{◌+◌, drop}
use Rattle.std.proofs.lemmas.List.{drop_more}
use Rattle.hep_storage.proofs.Groups.{known-turn}
use Rattle.hep_storage.proofs.data_groups.known.Goals as goal

pub loop-run-preserved : goal.loop-run-preserved
loop-run-preserved c =
    let os = c.args.found.now in
    let i = c.loop-run.run-index in
    known-turn (drop i os) (drop (i + 1) os) _ c.loop-run.runs.items c.push.new.self.items _ _ _ (drop_more os i _ c.loop-run-test.true) c.loop-run.invariant c.in-Some.is c.in_ok-push-in-Some.ensures.items
