use Rattle.hep_step.proofs.EmptiedRanges.{emptied-elsewhere, emptied-within, length-purged}
use Rattle.hep_step.proofs.purge_laws.ranges_are_emptied.Goals as goal

pub returns : goal.returns
returns c = record { within = emptied-within; elsewhere = emptied-elsewhere; cells = length-purged }
