use Rattle.hep_storage.proofs.Groups.{named-turn}
use Rattle.hep_storage.proofs.data_groups.named_all.Goals as goal

pub loop-target-preserved : goal.loop-target-preserved
loop-target-preserved c = (
  c.in_ok-named.ensures.table,
  named-turn c.args.symbols.now c.args.constants.now c.args.targets.now c.loop-target.target-index c.target-item.result c.loop-target.named.items c.push.new.self.items c.in_ok-named.field-0
      c.loop-target-test.true c.target-item.is c.loop-target.invariant.1 c.in_ok-named.ensures.named c.in_ok-push.ensures.items,
)
