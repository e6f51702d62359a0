use Rattle.hep_races.proofs.PurgedPlaces.{AreAllAppended}
use Rattle.hep_races.proofs.purged_places.append_purged.Given as goal

abbrev pub invariant-loop-entry : goal.invariant-loop-entry
invariant-loop-entry l = AreAllAppended l.ahead l.count l.entry-index l.rest l.places.items l.initial.places.items
