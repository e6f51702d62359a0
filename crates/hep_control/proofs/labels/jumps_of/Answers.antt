use Rattle.std.proofs.Common.{◌+◌, drop, map, arith}
use Rattle.std.proofs.lemmas.Grind.{common_steps}
use Rattle.hep_control.specs.Jumps.{leap, leaps_at}
use Rattle.hep_control.proofs.Sets.{indexed-next}
use Rattle.hep_control.proofs.labels.jumps_of.Goals as goal

pub loop-index-preserved : goal.loop-index-preserved
loop-index-preserved c =
    let unit = c.unit-statement-items.result.now in
    let next = indexed-next (leaps_at c.args.labels.now) (map leap c.loop-index.jumps.items) (map leap c.add_jumps_at.new.jumps.items) c.loop-index.index c.statement-item.result (drop (c.loop-index.index + 1) unit)
    c.in_ok-add_jumps_at.ensures in
    grind (arith, common_steps, next)
