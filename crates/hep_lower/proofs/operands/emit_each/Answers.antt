use Rattle.hep_lower.specs.Names.{names_in}
use Rattle.hep_lower.proofs.UnitRefusals.{of_item}
use Rattle.hep_lower.proofs.operands.emit_each.Goals as goal

pub returns-in_err-emit-clause-refused : goal.returns-in_err-emit-clause-refused
returns-in_err-emit-clause-refused g c =
    of_item c.from_residual.result c.in_err-emit.field-0.0 (g.T.HasOperands.code_of (names_in c.args.names.now) c.args.line) c.args.items.now c.loop-item.item-index c.item-item.result c.loop-item-test.true c.item-item.is
    c.from_residual.ensures c.in_err-emit.ensures.refused
