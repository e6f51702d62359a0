use Rattle.std.proofs.Common.{ℕ, ◌<◌, ◌≤◌}
use Rattle.hep_machine.specs.Words.{unit_at, frame_cells}
use Rattle.hep_image.specs.Image.{most_cells}
use Rattle.hep_lower.proofs.program.exceeds_cells.Given as goal

abbrev pub invariant-loop-index : goal.invariant-loop-index
invariant-loop-index l = (u : ℕ) → u < l.index → frame_cells (unit_at l.checked u) ≤ most_cells
