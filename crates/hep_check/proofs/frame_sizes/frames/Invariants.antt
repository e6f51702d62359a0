use Rattle.std.proofs.Common.{◌≡◌, map, take}
use Rattle.hep_machine.specs.Variables as variables
use Rattle.hep_check.proofs.frame_sizes.frames.Given as goal

abbrev pub invariant-loop-symbols : goal.invariant-loop-symbols
invariant-loop-symbols l = l.frames.items ≡ map variables.frame_cells (take l.symbols-index l.symbols-items)
