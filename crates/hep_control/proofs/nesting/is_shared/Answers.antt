use Rattle.std.proofs.Common.{rules, ◌≡◌, cond, Some, ◌∙◌, ap}
use Rattle.indexmap.specs.IndexMap.{get}
use Rattle.hep_control.specs.Ranges.{do_range}
use Rattle.hep_machine.specs.Words.{name_eq}
use Rattle.hep_control.specs.Nesting.{later}
use Rattle.hep_control.proofs.NestingSweeps.{met-range}
use Rattle.hep_control.proofs.nesting.is_shared.Goals as goal

pub returns-clause-met : goal.returns-clause-met
returns-clause-met c = λ x.
    let last = get name_eq c.args.last.now in
    let range = do_range c.args.range.now in
    let before : c.copied-before.result ≡ get name_eq c.args.last.now c.args.range.now.variable = search rules in
    let terminal : c.later.result ≡ later (last range.variable) range.terminal = c.later.ensures ∙ ap (λ o. later o range.terminal) before in
    c.in_ok-insert.ensures.updates.0 x ∙ (ap (λ t. cond (name_eq range.variable x) (Some t) (last x)) terminal ∙ met-range last range x)
