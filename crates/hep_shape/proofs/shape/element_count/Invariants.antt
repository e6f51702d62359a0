use Rattle.std.proofs.Common.{◌≡◌, true, Some, ◌^◌, ◌≤◌, drop}
use Rattle.hep_machine.specs.Words.{are_dimensions, elements, product}
use Rattle.hep_shape.proofs.shape.element_count.Given as goal

abbrev pub invariant-loop-bound : goal.invariant-loop-bound
invariant-loop-bound l =
    record {
      few : l.count ≤ 2 ^ 20;
      dimensions : are_dimensions (drop l.bound-index l.bounds) ≡ true;
      so_far : product (Some l.count) (elements (drop l.bound-index l.bounds)) ≡ elements l.bounds;
    }
