use Rattle.std.proofs.Common.{length}
use Rattle.hep_places.proofs.bound_code.+add_dimensions.Given as goal

abbrev pub decreases-add_dimensions : goal.decreases-add_dimensions
decreases-add_dimensions l = length l.dimensions.now
