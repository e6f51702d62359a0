use Rattle.std.proofs.Common.{◌≡◌, ◌+◌, ◌*◌, ◌≤◌, ◌^◌, drop}
use Rattle.hep_check.proofs.FrameSizes.{adjustable_of}
use Rattle.hep_check.proofs.frame_sizes.adjustable_dimensions_of_dummies.Given as goal

abbrev pub invariant-loop-dummy : goal.invariant-loop-dummy
invariant-loop-dummy l =
    record {
      counted : l.count + adjustable_of l.symbols (drop l.dummy-index l.dummy-items) ≡ adjustable_of l.symbols l.dummy-items;
      bounded : l.count ≤ 2 ^ 63 * l.dummy-index;
    }
