use Rattle.std.proofs.Common.{◌<◌, ◌≤◌, ◌∙◌, length, subst}
use Rattle.hep_machine.specs.Words.{Units}
use Rattle.hep_cover.specs.StatementStarts.{operations_by_line}
use Rattle.hep_cover.proofs.StatementCode.{all-noted, unit-next}
use Rattle.hep_cover.proofs.operation_counts.operations_by_line.Goals as goal

pub loop-unit-preserved : goal.loop-unit-preserved
loop-unit-preserved c =
    let program = c.args.image.now in
    let less =
    subst (λ (us : Units). c.loop-unit.unit < length us) (c.as_slice-unit-end.ensures ∙ c.program.ensures) c.loop-unit-test.true in
    unit-next program c.loop-unit.unit c.as_slice.result.now c.loop-unit.found.items
    c.note_code.new.found.items (operations_by_line program c.args.lines) less
    (c.as_slice.ensures ∙ c.unit.ensures.code) c.loop-unit.invariant c.note_code.ensures

pub returns : goal.returns
returns c =
    let program = c.args.image.now in
    let past =
    subst (λ (us : Units). length us ≤ c.loop-unit.unit) (c.as_slice-unit-end.ensures ∙ c.program.ensures) c.loop-unit-test.false in
    all-noted program c.loop-unit.unit c.loop-unit.found.items (operations_by_line program c.args.lines) past c.loop-unit.invariant
