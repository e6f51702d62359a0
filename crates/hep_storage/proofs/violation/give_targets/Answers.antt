use Rattle.hep_storage.specs.DataGroups.{elements_of_target}
use Rattle.hep_storage.proofs.DataLines.{gives-turn}
use Rattle.hep_storage.proofs.violation.give_targets.Goals as goal

pub loop-target-preserved : goal.loop-target-preserved
loop-target-preserved c = (
  c.in_ok-had_value.ensures.table,
  gives-turn c.args.symbols.now (elements_of_target c.args.symbols.now c.args.constants.now) c.args.targets.now c.loop-target.target-index c.target-item.result c.args.given.now c.loop-target.given c.give_target.new.given
      c.loop-target.is_twice _ c.is_either-is_twice.result c.loop-target-test.true c.target-item.is c.loop-target.invariant.1 c.in_ok-had_value.ensures.given c.is_either-is_twice.ensures,
)
