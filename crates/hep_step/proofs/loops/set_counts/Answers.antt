use Rattle.std.proofs.Common.{◌+◌, arith, sym, subst}
use Rattle.hep_arena.specs.Holes.{IsOut}
use Rattle.hep_step.proofs.loops.set_counts.Goals as goal

pub set-requires-clause-out : goal.set-requires-clause-out
set-requires-clause-out c = c.requires.frame.out (c.args.frame.first + c.args.cells) (omega arith) (omega arith)

pub set-requires-2-clause-out : goal.set-requires-2-clause-out
set-requires-2-clause-out c = subst (IsOut (c.args.frame.first + c.args.cells + 1)) (sym c.set.ensures.holes) (c.requires.frame.out (c.args.frame.first + c.args.cells + 1) (omega arith) (omega arith))
