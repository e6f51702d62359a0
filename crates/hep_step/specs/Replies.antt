-- The replies of the source machine that replies here mean: docs/MACHINE.md, "Storage" and "Steps".
use Rattle.std.specs.Prelude.{Option, Some, None}
use Rattle.hep_code.specs.declared.instruction.Evaluation.{Evaluation}
use Rattle.hep_code.specs.declared.instruction.Evaluation.TheVariants.{Load, Test}
use Rattle.hep_code.specs.declared.variable.Variable.{Variable}
use Rattle.hep_code.specs.Replies as replies
use Rattle.hep_cells.specs.Outcomes.{outcome_meant}
use Rattle.hep_step.specs.declared.reply.Reply.{Reply}
use Rattle.hep_step.specs.declared.reply.Reply.TheVariants.{Result, Accessed}

-- the reply of the definitions that this one means
abbrev pub reply_meant : Reply → replies.Reply
reply_meant (Result r) = replies.result r
reply_meant (Accessed at outcome) = replies.accessed at (outcome_meant outcome)

-- the variable that an operation accesses
abbrev pub accessed_by : Evaluation → Option Variable
accessed_by (Load x n) = Some x
accessed_by (Test f x n) = Some x
accessed_by _ = None
