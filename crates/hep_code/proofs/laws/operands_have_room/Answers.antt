use Rattle.std.proofs.Common.{arith}
use Rattle.hep_code.proofs.OperandCounts.{room_for}
use Rattle.hep_code.proofs.laws.operands_have_room.Goals as goal

pub returns : goal.returns
returns c = record {
  operands = λ addressed k work operands index stands. omega (arith, room_for addressed k work operands index stands);
  ahead = λ addressed k work operands index stands. room_for addressed k work operands index stands;
}
