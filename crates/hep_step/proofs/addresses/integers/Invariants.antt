use Rattle.std.proofs.Common.{◌≡◌, map, take}
use Rattle.hep_machine.specs.Words.{integer_of}
use Rattle.hep_step.proofs.addresses.integers.Given as goal

abbrev pub invariant-loop-value : goal.invariant-loop-value
invariant-loop-value l = l.integers.items ≡ map integer_of (take l.value-index l.values)
