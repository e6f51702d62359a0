use Rattle.std.proofs.Common.{◌≡◌, take}
use Rattle.hep_shape.proofs.shape.copied.Given as goal

abbrev pub invariant-loop-bound : goal.invariant-loop-bound
invariant-loop-bound l = l.copy.items ≡ take l.bound-index l.bounds
