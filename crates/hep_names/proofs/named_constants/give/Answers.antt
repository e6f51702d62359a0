use Rattle.std.proofs.Common.{◌+◌, drop}
use Rattle.hep_names.proofs.ConstantsInOrder.{give-turn}
use Rattle.hep_names.proofs.named_constants.give.Goals as goal
use Rattle.hep_source.proofs.Tests.{drop_at}

pub loop-constant-preserved : goal.loop-constant-preserved
loop-constant-preserved c =
    let cs = c.args.given.now in
    let i = c.loop-constant.constant-index in
    give-turn c.args.table.now (drop i cs) (drop (i + 1) cs) c.constant-item.result c.loop-constant.constants c.give_one.new.constants _
    (drop_at cs i c.constant-item.result c.loop-constant-test.true c.constant-item.is) c.loop-constant.invariant c.in_ok-give_one.ensures
