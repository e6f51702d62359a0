use Rattle.std.proofs.Common.{◌+◌, ◌++◌, ◌∙◌, ap, drop, map, option_to_list}
use Rattle.indexmap.specs.IndexMap.{get}
use Rattle.hep_source.proofs.Tests.{drop_at}
use Rattle.hep_conditions.specs.Words.{line_when}
use Rattle.hep_control.specs.Ranges.{do_range}
use Rattle.hep_machine.specs.Words.{name_eq}
use Rattle.hep_control.proofs.NestingSweeps.{lines-shared-next}
use Rattle.hep_control.proofs.nesting.add_shared.Goals as goal

pub loop-range-preserved : goal.loop-range-preserved
loop-range-preserved c =
    let unit = c.args.unit.now in
    let ranges = c.args.ranges.now in
    let i = c.loop-range.range-index in
    let r = c.range-item.result in
    let found = c.loop-range.lines.items in
    lines-shared-next unit (get name_eq c.loop-range.last.map) (get name_eq c.is_shared.new.last) found _ _ (do_range r) (map do_range (drop (i + 1) ranges)) (map do_range (drop i ranges))
    c.in_ok-is_reported.ensures.met (ap (map do_range) (drop_at ranges i r c.loop-range-test.true c.range-item.is)) c.loop-range.invariant
    (c.in_ok-add_line.ensures
    ∙ (ap (λ o. found ++ option_to_list o) c.line_when.ensures
    ∙ (λ j. found ++ option_to_list (line_when (c.in_ok-is_reported.ensures.shared j) (c.line_at.ensures j)))))
