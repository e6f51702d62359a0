use Rattle.std.proofs.Common.{[], ◌∷◌, ◌++◌}
use Rattle.hep_why.proofs.WatchedReplays.{along-turn, can-look}
use Rattle.hep_why.proofs.watch_list.WatchListObserver.tell.Goals as goal

pub look_at_all-requires : goal.look_at_all-requires
look_at_all-requires c =
    let at = c.requires in
    can-look c.args.image.now at.replay (at.made ++ c.args.p ∷ []) at.left c.args.machine.now
    at.under_way at.made c.args.self.now.watches.items
    at.seen at.known

pub returns : goal.returns
returns c at =
    along-turn c.args.image.now at.replay at.made c.args.entry c.args.p at.left c.args.machine.now at.under_way
    c.args.self.now.watches.items c.look_at_all.new.watches.items at.seen c.args.look at.known at.noted c.look_at_all.ensures
