use Rattle.std.proofs.Common.{◌≡◌, ◌≤◌, ◌++◌, drop, vec_capacity}
use Rattle.hep_commit.proofs.operands.refill.Given as goal

abbrev pub invariant-loop-value : goal.invariant-loop-value
invariant-loop-value l = record { values : l.operands.items ++ drop l.value-index l.values ≡ l.values; capacity : vec_capacity l.fn.operands ≤ vec_capacity l.operands }
