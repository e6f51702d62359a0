use Rattle.std.proofs.Common.{◌≡◌, ◌≤◌, ◌+◌, ◌-◌, drop, length, vec_len, vec_capacity}
use Rattle.hep_code.specs.Words.{values_ahead, left_to_do}
use Rattle.hep_code.proofs.operands.settle.Given as goal

abbrev pub invariant-loop-value : goal.invariant-loop-value
invariant-loop-value l =
    record {
      same : left_to_do l.operands.items l.index l.code ≡ left_to_do l.initial.operands.items l.initial.index l.code;
      room : vec_len l.operands + values_ahead (drop l.index l.code) ≤ vec_capacity l.operands;
      capacity : vec_capacity l.initial.operands ≤ vec_capacity l.operands;
    }

abbrev pub decreases-loop-value : goal.decreases-loop-value
decreases-loop-value l = length l.code - l.index
