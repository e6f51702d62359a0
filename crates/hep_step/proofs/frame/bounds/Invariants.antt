use Rattle.std.proofs.Common.{◌≡◌}
use Rattle.hep_image.specs.Addressing.{bounds_from, cells_in}
use Rattle.hep_step.proofs.frame.bounds.Given as goal

abbrev pub invariant-loop-dimension : goal.invariant-loop-dimension
invariant-loop-dimension l = l.bounds.items ≡ bounds_from (cells_in l.arena.contents) l.frame.first l.cells l.dimension
