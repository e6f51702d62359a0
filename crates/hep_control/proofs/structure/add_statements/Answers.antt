use Rattle.std.proofs.Common.{◌+◌, ◌++◌, ◌∙◌, ap, drop, arith}
use Rattle.std.proofs.lemmas.Grind.{common_steps}
use Rattle.hep_conditions.specs.Words.{IndexedStatement}
use Rattle.hep_control.specs.Structure.{statement_lines, variable_at}
use Rattle.hep_control.proofs.Sets.{indexed-next}
use Rattle.hep_control.proofs.structure.add_statements.Goals as goal

pub loop-index-preserved : goal.loop-index-preserved
loop-index-preserved c =
    let unit = c.args.labels.now in
    let items = c.unit-statement-items.result.now in
    let s = c.statement-item.result in
    let index = c.loop-index.index in
    let found = c.loop-index.lines.items in
    let next = indexed-next (λ (p : IndexedStatement). statement_lines unit (variable_at c.args.loop_variables.now p.index) p) found c.add_statement.new.lines.items index s (drop (index + 1) items)
    (c.in_ok-add_statement.ensures ∙ ap (λ b. found ++ statement_lines unit b (record { index = index; statement = s })) c.is_loop_variable-is_variable.ensures) in
    grind (arith, common_steps, next)
