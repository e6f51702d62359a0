use Rattle.std.proofs.Common.{length, arith}
use Rattle.hep_code.specs.Words.{form_code}
use Rattle.hep_lower.specs.Operations.{list_subscripts}
use Rattle.hep_lower.specs.Names.{names_in}
use Rattle.hep_lower.specs.Tables.{table_in}
use Rattle.hep_lower.proofs.Forms.{form_lists}
use Rattle.hep_lower.proofs.ExpressionRefusals.{long, weaker}
use Rattle.hep_lower.proofs.operations.emit_operation.Goals as goal

pub returns-in_err-count-clause-refused : goal.returns-in_err-count-clause-refused
returns-in_err-count-clause-refused c =
    let table = table_in c.args.tables.now in
    let lists = form_lists table c.args.line c.args.index c.args.form.now in
    let whole = length (form_code table c.args.line c.args.index c.args.form.now) in
    long c.from_residual.result c.list_length.result whole c.in_err-count.ensures.refused (omega (arith, c.list_length.ensures, lists.0))

pub returns-clause-refused : goal.returns-clause-refused
returns-clause-refused c =
    let table = table_in c.args.tables.now in
    let lists = form_lists table c.args.line c.args.index c.args.form.now in
    let whole = length (form_code table c.args.line c.args.index c.args.form.now) in
    weaker c.emit_list.result (list_subscripts (names_in c.args.tables.now.names) c.args.form.now) whole c.emit_list.ensures.refused lists.1
