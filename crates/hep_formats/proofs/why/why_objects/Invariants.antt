use Rattle.std.proofs.Common.{◌≡◌, ◌++◌, length}
use Rattle.std.specs.List.{flat_map}
use Rattle.hep_text.specs.Line.{lines}
use Rattle.hep_formats.specs.WhyObjects.{part}
use Rattle.hep_formats.proofs.why.why_objects.Given as goal

abbrev pub decreases-loop-rest : goal.decreases-loop-rest
decreases-loop-rest l = length l.rest

abbrev pub invariant-loop-rest : goal.invariant-loop-rest
invariant-loop-rest l = l.text.items ++ flat_map part (lines l.rest) ≡ flat_map part (lines l.fn.why)
