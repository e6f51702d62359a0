use Rattle.std.proofs.Common.{◌≡◌, ◌++◌, drop, map}
use Rattle.hep_control.specs.Structure.{start_line}
use Rattle.hep_control.proofs.structure.add_unclosed.Given as goal

abbrev pub invariant-loop-block : goal.invariant-loop-block
invariant-loop-block l = l.lines.items ++ map (start_line l.unit) (drop l.block-index l.blocks) ≡ l.initial.lines.items ++ map (start_line l.unit) l.blocks
