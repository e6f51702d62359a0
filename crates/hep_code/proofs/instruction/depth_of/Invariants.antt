use Rattle.std.proofs.Common.{◌-◌, ◌*◌, ◌≤◌, length}
use Rattle.hep_code.proofs.OperandCounts.{Known}
use Rattle.hep_code.proofs.instruction.depth_of.Given as goal

abbrev pub invariant-loop-passed : goal.invariant-loop-passed
invariant-loop-passed l =
    record {
      known : Known l.code (length l.code - l.passed) l.operands l.line l.depth.operands l.depth.too_deep;
      few : l.operands ≤ 4503599627370496 * l.passed;
    }
