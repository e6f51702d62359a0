use Rattle.std.proofs.Common.{◌≤◌, ◌+◌, ◌++◌, ◌∙◌, ap, drop, false, length, nat_eq, option_to_list, refl, arith}
use Rattle.std.specs.List.{list_any}
use Rattle.indexmap.specs.IndexSet.{contains}
use Rattle.hep_source.proofs.Tests.{drop_at}
use Rattle.hep_conditions.specs.Words.{line_when}
use Rattle.hep_control.specs.Labels.{lines_from}
use Rattle.hep_control.proofs.Labelled.{labels-next, labels-told}
use Rattle.hep_control.proofs.Sets.{at-end}
use Rattle.hep_control.proofs.labels.label_lines.Goals as goal

pub loop-statement-preserved : goal.loop-statement-preserved
loop-statement-preserved c =
    let items = c.unit-statement-items.result.now in
    let i = c.loop-statement.statement-index in
    let s = c.statement-item.result in
    let found = c.loop-statement.lines.items in
    labels-next c.args.labels.now (contains nat_eq c.loop-statement.seen.set) (contains nat_eq c.is_repeated.new.seen) found c.add_line.new.lines.items _ _ s (drop (i + 1) items) (drop i items)
    c.in_ok-is_repeated.ensures.seen (drop_at items i s c.loop-statement-test.true c.statement-item.is) c.loop-statement.invariant
    (c.in_ok-add_line.ensures ∙ (ap (λ o. found ++ option_to_list o) c.line_when.ensures ∙ ap (λ b. found ++ option_to_list (line_when b s.line)) c.in_ok-is_repeated.ensures.repeated))
    (c.in_ok-add_line-2.ensures ∙ (ap (λ o. c.add_line.new.lines.items ++ option_to_list o) c.line_when-in-loop-statement.ensures ∙ ap (λ b. c.add_line.new.lines.items ++ option_to_list (line_when b s.line)) c.goes_nowhere-is_absent.ensures))

pub returns : goal.returns
returns c = λ test.
    let unit = c.args.labels.now in
    let items = c.unit-statement-items.result.now in
    let i = c.loop-statement.statement-index in
    let le : length items ≤ i = omega arith in
    ap (list_any test)
    (at-end (lines_from unit (contains nat_eq c.loop-statement.seen.set)) items i c.loop-statement.lines.items _ refl le c.loop-statement.invariant
    ∙ ap (lines_from unit (λ k. false)) c.unit-statement-items.ensures)
    ∙ labels-told unit test
