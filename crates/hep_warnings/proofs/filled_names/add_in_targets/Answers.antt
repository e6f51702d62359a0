use Rattle.std.proofs.Common.{◌++◌, ◌∙◌, ap}
use Rattle.std.specs.List.{flat_map}
use Rattle.hep_machine.specs.Words.{occurrences_in}
use Rattle.hep_warnings.specs.Asynchronous.{reads_in_subscripts}
use Rattle.hep_warnings.proofs.Appending.{appended_item}
use Rattle.hep_warnings.proofs.filled_names.add_in_targets.Goals as goal

pub loop-target-preserved : goal.loop-target-preserved
loop-target-preserved c =
    appended_item (reads_in_subscripts c.args.symbols.now) c.args.targets.now c.loop-target.target-index c.target-item.result c.loop-target.found.items _ _ c.loop-target-test.true c.target-item.is (c.in_ok-add_in_all.ensures ∙ ap (λ ys. c.loop-target.found.items ++ flat_map (occurrences_in c.args.symbols.now) ys) c.as_slice.ensures) c.loop-target.invariant
