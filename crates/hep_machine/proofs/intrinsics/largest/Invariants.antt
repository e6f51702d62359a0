use Rattle.std.proofs.Common.{◌≡◌, drop}
use Rattle.hep_machine.specs.Words.{integers_of, largest_of}
use Rattle.hep_machine.proofs.intrinsics.largest.Given as goal

abbrev pub invariant-loop-argument : goal.invariant-loop-argument
invariant-loop-argument l = largest_of l.largest (integers_of (drop l.argument-index l.more)) ≡ largest_of l.first (integers_of l.more)
