use Rattle.indexmap.specs.IndexSet.{contains}
use Rattle.hep_machine.specs.Words.{name_eq, same_name}
use Rattle.hep_types.specs.Ambiguities.{its_name}
use Rattle.hep_types.proofs.Reported.{repeated-more}
use Rattle.hep_types.proofs.all_ambiguities.add_repeated.Goals as goal

pub loop-name-preserved : goal.loop-name-preserved
loop-name-preserved c =
    repeated-more same_name its_name c.args.uses.now c.loop-name.name-index _ c.in_ok-is_repeated.is_repeated c.loop-name.found.items c.add_when.new.found.items _ (contains name_eq c.loop-name.seen.set) (contains name_eq c.add.new.seen)
    c.loop-name-test.true c.loop-name.invariant c.in_ok-add_when.ensures c.in_ok-is_repeated.ensures.seen c.in_ok-is_repeated.ensures.added
