use Rattle.std.proofs.Common.{◌≤◌, ◌+◌, ◌∙◌, refl, ap, drop, length, arith}
use Rattle.std.proofs.lemmas.List.{drop_more}
use Rattle.hep_machine.specs.Words.{adjustable_dimensions_of_all}
use Rattle.hep_check.proofs.FrameSizes.{adjustable_of, adjustable-turn, nothing-left}
use Rattle.hep_check.proofs.frame_sizes.adjustable_dimensions_of_dummies.Goals as goal

pub loop-dummy-preserved : goal.loop-dummy-preserved
loop-dummy-preserved c =
    let ps = c.dummies-dummy-items.result.now in
    let i = c.loop-dummy.dummy-index in
    record {
      counted = adjustable-turn c.args.symbols.now c.loop-dummy.count c.in_ok-dimensions.dimensions _ _ (drop i ps) (drop (i + 1) ps)
          c.loop-dummy.invariant.counted c.in_ok-dimensions.ensures.counted (drop_more ps i _ c.loop-dummy-test.true);
      bounded = omega arith;
    }

pub returns-clause-counted : goal.returns-clause-counted
returns-clause-counted c =
    let ps = c.dummies-dummy-items.result.now in
    let i = c.loop-dummy.dummy-index in
    let k : length ps ≤ i = omega arith in
    nothing-left c.loop-dummy.count (adjustable_of c.args.symbols.now) ps i k c.loop-dummy.invariant.counted refl
    ∙ ap (adjustable_dimensions_of_all c.args.symbols.now) c.dummies-dummy-items.ensures
