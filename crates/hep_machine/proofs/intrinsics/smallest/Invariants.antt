use Rattle.std.proofs.Common.{◌≡◌, drop}
use Rattle.hep_machine.specs.Words.{integers_of, smallest_of}
use Rattle.hep_machine.proofs.intrinsics.smallest.Given as goal

abbrev pub invariant-loop-argument : goal.invariant-loop-argument
invariant-loop-argument l = smallest_of l.smallest (integers_of (drop l.argument-index l.more)) ≡ smallest_of l.first (integers_of l.more)
