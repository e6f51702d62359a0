-- The next place of an activation, as contracts see it.
use Rattle.hep_code.specs.Words.{Target, at, end_of}
use Rattle.hep_lower.specs.declared.destinations.Destination.{Destination}
use Rattle.hep_lower.specs.declared.destinations.Destination.TheVariants as destinations

abbrev pub destination : Destination → Target
destination (destinations.Statement k) = at k
destination (destinations.LoopEnd d) = end_of d
