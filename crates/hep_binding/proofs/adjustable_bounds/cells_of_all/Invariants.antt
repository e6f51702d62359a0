use Rattle.std.proofs.Common.{◌≡◌, ◌+◌, drop}
use Rattle.hep_binding.specs.AdjustableBounds.{cells_of_shapes}
use Rattle.hep_binding.proofs.adjustable_bounds.cells_of_all.Given as goal

abbrev pub invariant-loop-shape : goal.invariant-loop-shape
invariant-loop-shape l = l.cells + cells_of_shapes (drop l.shape-index l.shapes) ≡ cells_of_shapes l.fn.shapes
