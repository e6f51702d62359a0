use Rattle.std.proofs.Common.{sym, ap, subst}
use Rattle.hep_proc.specs.Stacks.{Stack}
use Rattle.hep_proc.specs.declared.stack_exit.ExitReason.{ExitReason}
use Rattle.hep_proc.specs.StackExit.{CanAnswer, CanLeave, LeavesStack}
use Rattle.hep_proc.proofs.stack_exit.leave.Goals as goal

pub take_value-requires-clause-none : goal.take_value-requires-clause-none
take_value-requires-clause-none c =
    let answering : CanAnswer c.args.process.now c.args.frames.now = subst (λ (why : ExitReason). CanLeave why c.args.process.now c.args.frames.now) c.in-Answered.is c.requires.out in
    let it = answering.out in
    ap (λ (k : Stack). k.operands) (c.end_top-level.ensures.stack it.level it.below it.operands it.pending it.stack)

pub returns-in-Answered-clause-stack : goal.returns-in-Answered-clause-stack
returns-in-Answered-clause-stack c =
    subst (λ (why : ExitReason). LeavesStack why c.args.process.now c.take_value.new.self) (sym c.in-Answered.is) (λ l ls operands pending is.
    c.take_value.ensures.stack ls pending (c.end_top-level.ensures.stack l ls operands pending is))
