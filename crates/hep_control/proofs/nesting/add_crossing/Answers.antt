use Rattle.std.proofs.Common.{◌||◌, ◌∙◌, ap}
use Rattle.std.specs.List.{list_any}
use Rattle.hep_control.specs.Sweep.{lines_asked}
use Rattle.hep_control.proofs.NestingSweeps.{crossing-told}
use Rattle.hep_control.proofs.nesting.add_crossing.Goals as goal

pub returns : goal.returns
returns c = λ test.
    let old = c.args.lines.now.items in
    let one = c.add_met.new.lines.items in
    let two = c.add_shared.new.lines.items in
    let three = c.add_met-2.new.lines.items in
    crossing-told c.args.unit.now c.args.ranges.now c.closed-closed.result.now c.requires.ranges (c.closed-closed.ensures ∙ ap (λ b. b.closed) c.requires.blocks)
    test old one two three c.add_met-3.new.lines.items
    (c.in_ok-add_met.ensures test ∙ ap (λ es. list_any test old || list_any test (lines_asked es)) c.in_ok-crossed.ensures)
    c.in_ok-add_shared.ensures
    (c.in_ok-add_met-2.ensures test ∙ ap (λ es. list_any test two || list_any test (lines_asked es)) c.in_ok-by_block.ensures)
    (c.in_ok-add_met-3.ensures test ∙ ap (λ es. list_any test three || list_any test (lines_asked es)) c.in_ok-by_range.ensures)
