use Rattle.std.proofs.Common.{◌≡◌, take}
use Rattle.hep_private.proofs.operands.assign.Given as goal

abbrev pub invariant-loop-value : goal.invariant-loop-value
invariant-loop-value l = l.operands ≡ take l.value-index l.values
