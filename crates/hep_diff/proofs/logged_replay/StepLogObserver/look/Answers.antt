use Rattle.hep_diff.proofs.NotedSteps.{deed-noted, lives-there}
use Rattle.hep_diff.proofs.logged_replay.StepLogObserver.look.Goals as goal

pub deed_by-requires : goal.deed_by-requires
deed_by-requires c =
    let at = c.requires in
    let there = lives-there c.args.image.now at.replay at.made c.args.entry c.args.p at.left c.args.machine.now at.under_way in
    (at.replay.cells, at.made, there.0, there.1)

pub returns : goal.returns
returns c at =
    deed-noted c.args.image.now at.replay at.made c.args.entry c.args.p at.left c.args.machine.now at.under_way c.in_ok-deed.deed c.in_ok-deed.ensures
