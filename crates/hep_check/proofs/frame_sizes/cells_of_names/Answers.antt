use Rattle.std.proofs.Common.{◌+◌, ◌∙◌, drop, arith}
use Rattle.std.proofs.lemmas.List.{drop_more}
use Rattle.hep_check.proofs.FrameSizes.{cells-turn}
use Rattle.hep_check.proofs.frame_sizes.cells_of_names.Goals as goal

pub loop-name-preserved : goal.loop-name-preserved
loop-name-preserved c =
    let xs = c.args.names.now in
    let i = c.loop-name.name-index in
    record {
      counted = cells-turn c.args.symbols.now c.loop-name.cells c.from-cells.result _ _ (drop i xs) (drop (i + 1) xs)
          c.loop-name.invariant.counted (c.from-cells.ensures ∙ c.in_ok-count.ensures) (drop_more xs i _ c.loop-name-test.true);
      bounded = omega arith;
    }
