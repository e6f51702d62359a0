use Rattle.std.proofs.Common.{◌≡◌, drop}
use Rattle.hep_machine.specs.Words.{are_dimensions}
use Rattle.hep_shape.proofs.shape.are_dimensions.Given as goal

abbrev pub invariant-loop-index : goal.invariant-loop-index
invariant-loop-index l = are_dimensions (drop l.index l.bounds) ≡ are_dimensions l.bounds
