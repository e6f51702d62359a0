use Rattle.std.proofs.Common.{◌∙◌}
use Rattle.indexmap.specs.IndexMap.{get}
use Rattle.hep_machine.specs.Words.{name_eq}
use Rattle.hep_types.proofs.Reported.{met-more}
use Rattle.hep_types.proofs.all_ambiguities.add_met.Goals as goal

pub loop-name-preserved : goal.loop-name-preserved
loop-name-preserved c =
    met-more (get name_eq c.args.lines.now) c.args.uses.now c.loop-name.name-index _ c.is_by-is_met.result c.copied.result c.loop-name.found.items c.add_when.new.found.items _
    c.loop-name-test.true c.loop-name.invariant c.in_ok-add_when.ensures c.is_by-is_met.ensures (c.copied.ensures ∙ c.get.ensures.value)
