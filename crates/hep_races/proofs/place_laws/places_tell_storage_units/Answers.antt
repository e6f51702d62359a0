use Rattle.hep_races.proofs.PlacesTold.{places-told}
use Rattle.hep_races.proofs.place_laws.places_tell_storage_units.Goals as goal

pub returns : goal.returns
returns c program s a b h g = places-told program s a b h g
