use Rattle.std.proofs.Common.{◌≤◌, ◌+◌, ◌++◌, ◌∙◌, [], ap, drop, length, option_to_list, arith}
use Rattle.std.specs.List.{list_any}
use Rattle.hep_machine.specs.Words.{value_among, given_by}
use Rattle.hep_conditions.specs.Words.{elements_in}
use Rattle.hep_storage.specs.InitializedElements.{given_after}
use Rattle.hep_storage.specs.DataGroups.{data_lines}
use Rattle.hep_storage.proofs.DataLines.{lines-end, lines-told, lines-turn}
use Rattle.hep_storage.proofs.violation.data_lines.Goals as goal
use Rattle.hep_source.proofs.Tests.{drop_at}

pub loop-statement-init : goal.loop-statement-init
loop-statement-init c =
    let unit = c.args.symbols.now in
    let ss = c.statements-statement-items.result.now in
    (c.new-shapes.ensures unit, ([], c.new-given.ensures unit, λ i. c.new-lines.ensures.items i ++ data_lines unit (c.new-constants.ensures i) [] ss))

pub loop-statement-preserved : goal.loop-statement-preserved
loop-statement-preserved c =
    let unit = c.args.symbols.now in
    let ss = c.statements-statement-items.result.now in
    let i = c.loop-statement.statement-index in
    let s = c.statement-item.result in
    let known = c.loop-statement.constants in
    let found = c.loop-statement.lines.items in
    let so_far = c.loop-statement.invariant.1 in
    let turned = c.in_ok-is_wrong.ensures.wrong so_far.0 so_far.1 in (
      c.in_ok-is_wrong.ensures.table,
      (
        given_after so_far.0 (elements_in unit known s),
        turned.1,
        lines-turn unit known so_far.0 s (drop i ss) (drop (i + 1) ss) c.give.new.constants found c.add_line.new.lines.items _ c.in_ok-is_wrong.is_wrong
            (drop_at ss i s c.loop-statement-test.true c.statement-item.is) so_far.2 turned.0
            (c.in_ok-add_line.ensures ∙ ap (λ o. found ++ option_to_list o) c.line_when.ensures)
            (c.in_ok-give.ensures ∙ (λ j. value_among (given_by (c.listed.ensures j) known (c.constants_in-behind.ensures j)))),
      ),
    )

pub returns : goal.returns
returns c = λ test.
    let unit = c.args.symbols.now in
    let ss = c.statements-statement-items.result.now in
    let i = c.loop-statement.statement-index in
    let so_far = c.loop-statement.invariant.1 in
    let le : length ss ≤ i = omega arith in
    ap (list_any test)
    (lines-end unit c.loop-statement.constants so_far.0 ss i c.loop-statement.lines.items _ le so_far.2 ∙ ap (data_lines unit [] []) c.statements-statement-items.ensures)
    ∙ lines-told test unit
