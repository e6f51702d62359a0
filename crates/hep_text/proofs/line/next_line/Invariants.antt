use Rattle.std.proofs.Common.{◌≡◌, take, drop}
use Rattle.hep_text.specs.Line.{lines}
use Rattle.hep_text.proofs.Cut.{with_bytes}
use Rattle.hep_text.proofs.line.next_line.Given as goal

abbrev pub invariant-loop-i : goal.invariant-loop-i
invariant-loop-i l = lines l.text ≡ with_bytes (take l.i l.text) (lines (drop l.i l.text))
