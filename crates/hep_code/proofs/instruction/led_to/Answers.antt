use Rattle.std.proofs.Common.{sym, subst}
use Rattle.hep_code.specs.Words.{Leads}
use Rattle.hep_code.proofs.ControlFlow.{operation_leads}
use Rattle.hep_code.proofs.instruction.led_to.Goals as goal

pub returns-clause-leads : goal.returns-clause-leads
returns-clause-leads c = λ addressed level counts line a is_at ahead is.
    subst (Leads addressed level counts a) (sym c.index_after.ensures)
    (operation_leads addressed level c.args.operands.now counts c.args.index is_at line c.args.operation c.args.entries.now ahead a is)
