use Rattle.std.proofs.Common.{◌≡◌, ◌++◌, drop, map}
use Rattle.hep_machine.specs.Words.{line_at}
use Rattle.hep_control.proofs.structure.add_stray.Given as goal

abbrev pub invariant-loop-index : goal.invariant-loop-index
invariant-loop-index l = l.lines.items ++ map (line_at l.unit) (drop l.index-index l.stray) ≡ l.initial.lines.items ++ map (line_at l.unit) l.stray
