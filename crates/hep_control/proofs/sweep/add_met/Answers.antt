use Rattle.std.proofs.Common.{◌≤◌, ◌+◌, ◌++◌, ◌∙◌, [], ap, drop, get_or, length, option_to_list, arith, rules}
use Rattle.std.proofs.lemmas.List.Sorted.{IsNonDecreasingBy-from_sort_by_key}
use Rattle.std.specs.List.{list_any}
use Rattle.std.proofs.lemmas.List.{drop_more}
use Rattle.hep_control.specs.declared.sweep.Event.TheVariants.{Value}
use Rattle.hep_control.specs.Sweep.{lines_swept, rank}
use Rattle.hep_control.proofs.Swept.{lines-end, lines-met, lines-next}
use Rattle.hep_control.proofs.sweep.add_met.Goals as goal

pub loop-event-preserved : goal.loop-event-preserved
loop-event-preserved c =
    let events = c.deref-event-items.result.now in
    let i = c.loop-event.event-index in
    let found = c.loop-event.lines.items in
    lines-next c.loop-event.values.keys c.line_met.new.values.keys found _ _ (get_or events i (Value 0 0)) (drop (i + 1) events) (drop i events)
    c.in_ok-line.ensures.values (drop_more events i (Value 0 0) c.loop-event-test.true) c.loop-event.invariant
    (c.in_ok-add_line.ensures ∙ ap (λ o. found ++ option_to_list o) c.in_ok-line.ensures.line)

pub returns : goal.returns
returns c = λ test.
    let events = c.deref-event-items.result.now in
    let i = c.loop-event.event-index in
    let le : length events ≤ i = omega arith in
    let met = lines-met test c.args.events.items c.sort_by_key.new.self.items c.sort_by_key.ensures.permutation
    (IsNonDecreasingBy-from_sort_by_key rank _ c.in_ok-sort_by_key.ensures.sorted (λ a r q k. search rules)) in
    lines-end test c.args.lines.now.items c.loop-event.lines.items c.loop-event.values.keys c.args.events.items events i le c.loop-event.invariant
    (ap (λ es. list_any test (lines_swept [] es)) c.deref-event-items.ensures.value ∙ met)
