use Rattle.hep_races.proofs.PurgedPlaces.{AreAppended}
use Rattle.hep_races.proofs.purged_places.append_full.Given as goal

abbrev pub invariant-loop-index : goal.invariant-loop-index
invariant-loop-index l = AreAppended l.image l.machine l.key l.range l.index l.places.items l.initial.places.items
