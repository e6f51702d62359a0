use Rattle.std.proofs.Common.{subst}
use Rattle.hep_machine.specs.Words.{DataGroup}
use Rattle.hep_storage.specs.InitializedElements.{Gives}
use Rattle.hep_storage.specs.DataGroups.{elements_of_targets}
use Rattle.hep_storage.proofs.DataLines.{gives-turn}
use Rattle.hep_storage.proofs.violation.give_groups.Goals as goal

pub loop-group-preserved : goal.loop-group-preserved
loop-group-preserved c =
    let unit = c.args.symbols.now in
    let known = c.args.constants.now in
    let here = subst (λ ts. Gives unit c.loop-group.given c.give_targets.new.given (elements_of_targets unit known ts) c.in_ok-had_value.had_value) c.as_slice-targets.ensures c.in_ok-had_value.ensures.given in (
      c.in_ok-had_value.ensures.table,
      gives-turn unit (λ (g : DataGroup). elements_of_targets unit known g.targets) c.args.groups.now c.loop-group.group-index c.group-item.result c.args.given.now c.loop-group.given
          c.give_targets.new.given c.loop-group.is_twice _ c.is_either-is_twice.result c.loop-group-test.true c.group-item.is c.loop-group.invariant.1 here c.is_either-is_twice.ensures,
    )
