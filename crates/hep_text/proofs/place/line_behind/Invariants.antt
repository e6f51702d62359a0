use Rattle.std.proofs.Common.{◌≡◌, length, slice_get}
use Rattle.hep_text.specs.Line.{lines}
use Rattle.hep_text.proofs.place.line_behind.Given as goal

abbrev pub decreases-loop-rest : goal.decreases-loop-rest
decreases-loop-rest l = length l.rest

abbrev pub invariant-loop-rest : goal.invariant-loop-rest
invariant-loop-rest l = slice_get (lines l.rest) l.left ≡ slice_get (lines l.text) l.before
