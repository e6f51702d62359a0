use Rattle.hep_races.proofs.ChangedUnits.{accessed-units, changed-units}
use Rattle.hep_races.proofs.event_laws.steps_are_known_before.Goals as goal

pub returns-clause-changes : goal.returns-clause-changes
returns-clause-changes c program p s t top at lives e = changed-units program p s t top lives e at

pub returns-clause-accesses : goal.returns-clause-accesses
returns-clause-accesses c program p s t top lives e = accessed-units program p s t top lives e
