use Rattle.std.proofs.Common.{◌++◌, ◌∙◌, ap}
use Rattle.hep_warnings.specs.UnusedUnits.{unit_warning}
use Rattle.hep_warnings.proofs.Appending.{appended_item}
use Rattle.hep_warnings.proofs.unused_units.add_units.Goals as goal

pub loop-unit-preserved : goal.loop-unit-preserved
loop-unit-preserved c =
    appended_item (unit_warning c.args.used.now) c.args.program.now c.loop-unit.unit-index c.unit-item.result c.loop-unit.found.items _ _ c.loop-unit-test.true c.unit-item.is (c.in_ok-add_unit.ensures ∙ ap (λ ys. c.loop-unit.found.items ++ unit_warning c.args.used.now ys) c.as_slice.ensures) c.loop-unit.invariant
