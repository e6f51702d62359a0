use Rattle.std.proofs.Common.{◌≡◌, ◌++◌, length}
use Rattle.hep_code.specs.DimensionCode.{bounds_in}
use Rattle.hep_binding.proofs.adjustable_shape.bounds_in.Given as goal

abbrev pub invariant-loop-bound : goal.invariant-loop-bound
invariant-loop-bound l =
    l.bounds.items ++ bounds_in l.rest ≡ bounds_in l.fn.values

abbrev pub decreases-loop-bound : goal.decreases-loop-bound
decreases-loop-bound l = length l.rest
