use Rattle.std.proofs.Common.{◌+◌, arith}
use Rattle.hep_step.proofs.frame.cell.Goals as goal

pub get-requires-clause-out : goal.get-requires-clause-out
get-requires-clause-out c = c.requires.frame.out (c.args.frame.first + c.args.at) (omega arith) (omega arith)
