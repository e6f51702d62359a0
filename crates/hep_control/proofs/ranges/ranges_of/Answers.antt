use Rattle.std.proofs.Common.{◌+◌, ◌++◌, drop, map, arith, ap, ◌∙◌}
use Rattle.std.proofs.lemmas.Grind.{common_steps}
use Rattle.hep_control.specs.Ranges.{do_range, range_at}
use Rattle.hep_control.proofs.Sets.{indexed-next}
use Rattle.hep_control.proofs.ranges.ranges_of.Goals as goal

pub loop-index-preserved : goal.loop-index-preserved
loop-index-preserved c =
    let unit = c.unit-statement-items.result.now in
    let old = map do_range c.loop-index.ranges.items in
    let next = indexed-next (range_at c.args.labels.now) old (map do_range c.append.new.ranges.items) c.loop-index.index c.statement-item.result (drop (c.loop-index.index + 1) unit)
    (c.in_ok-append.ensures ∙ ap (λ l. old ++ l) c.range_at.ensures) in
    grind (arith, common_steps, next)
