use Rattle.std.proofs.Common.{refl}
use Rattle.hep_why.proofs.WatchedReplays.{along-row, can-look-then}
use Rattle.hep_why.proofs.watch_list.WatchListObserver.go_on.Goals as goal

pub look_at_new-requires : goal.look_at_new-requires
look_at_new-requires c =
    let at = c.requires.ahead in
    let gone = c.go_on-made.ensures in
    can-look-then c.args.tabled.now.image.now at.replay at.made c.args.row at.left c.args.machine.now c.go_on-made.new.machine
    c.go_on-made.result gone.few at.under_way gone.gone c.args.self.now.watches.items at.seen at.known

pub returns-clause-seen : goal.returns-clause-seen
returns-clause-seen c at =
    let gone = c.go_on-made.ensures in
    along-row c.args.tabled.now.image.now at.replay at.made c.args.row at.left c.args.machine.now c.go_on-made.new.machine
    c.go_on-made.result gone.few at.under_way gone.gone c.args.machine.now.activations refl
    c.args.self.now.watches.items c.look_at_new.new.watches.items at.seen at.known c.look_at_new.ensures
