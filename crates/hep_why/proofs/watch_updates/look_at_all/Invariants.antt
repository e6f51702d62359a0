use Rattle.hep_why.proofs.WatchUpdates.{HavePart}
use Rattle.hep_why.proofs.watch_updates.look_at_all.Given as goal

abbrev pub invariant-loop-index : goal.invariant-loop-index
invariant-loop-index l = HavePart l.machine l.made l.change l.initial.watches.items l.index l.watches.items
