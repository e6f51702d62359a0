use Rattle.std.proofs.Common.{◌||◌, ◌++◌, ◌∙◌, ap}
use Rattle.std.specs.List.{list_any}
use Rattle.hep_conditions.specs.Words.{block_violations, indexed_statements, nesting_violations}
use Rattle.hep_control.specs.Structure.{lines_alone}
use Rattle.hep_control.proofs.SingleLines.{structure-told}
use Rattle.hep_control.proofs.Sets.{line_passes}
use Rattle.hep_control.proofs.structure.structure_lines.Goals as goal

pub returns : goal.returns
returns c functions variables = λ test.
    let unit = c.args.labels.now in
    let alone = c.add_statements.new.lines.items in
    let unmatched = c.add_unmatched.new.lines.items in
    structure-told functions unit test alone unmatched c.add_crossing.new.lines.items
    (c.in_ok-add_statements.ensures
    ∙ (ap (λ ls. ls ++ lines_alone unit c.args.loop_variables.now (indexed_statements unit)) c.new-lines.ensures.items ∙ ap (λ flags. lines_alone unit flags (indexed_statements unit)) variables))
    (c.in_ok-add_unmatched.ensures test ∙ ap (λ u. list_any test alone || list_any (line_passes test) (block_violations u)) c.unit-unit.ensures)
    (c.in_ok-add_crossing.ensures test ∙ ap (λ u. list_any test unmatched || list_any (line_passes test) (nesting_violations u)) c.unit-unit.ensures)
