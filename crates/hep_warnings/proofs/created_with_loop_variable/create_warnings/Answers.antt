use Rattle.std.proofs.Common.{◌++◌, ◌∙◌, ap}
use Rattle.hep_warnings.specs.CreatedWithLoopVariable.{create_warnings_in}
use Rattle.hep_warnings.proofs.Appending.{appended_item}
use Rattle.hep_warnings.proofs.created_with_loop_variable.create_warnings.Goals as goal

pub loop-unit-preserved : goal.loop-unit-preserved
loop-unit-preserved c =
    appended_item create_warnings_in c.args.program.now c.loop-unit.unit-index c.unit-item.result c.loop-unit.found.items _ _ c.loop-unit-test.true c.unit-item.is (c.in_ok-add_unit.ensures ∙ ap (λ ys. c.loop-unit.found.items ++ create_warnings_in ys) c.as_slice.ensures) c.loop-unit.invariant
