use Rattle.std.proofs.Common.{◌≡◌, take}
use Rattle.hep_shape.proofs.shape.are_same.Given as goal

abbrev pub invariant-loop-i : goal.invariant-loop-i
invariant-loop-i l = take l.i l.fn.a ≡ take l.i l.fn.b
