use Rattle.std.proofs.Common.{◌≡◌, ◌++◌, codes, false, length}
use Rattle.hep_formats.specs.Strings.{json_items}
use Rattle.hep_text.specs.Line.{lines}
use Rattle.hep_outcome.proofs.tally.append_line_strings.Given as goal

abbrev pub decreases-loop-rest : goal.decreases-loop-rest
decreases-loop-rest l = length l.rest

abbrev pub invariant-loop-rest : goal.invariant-loop-rest
invariant-loop-rest l =
    l.text.items ++ json_items l.follows (lines l.rest) ≡ l.fn.text.items ++ codes "[" ++ json_items false (lines l.fn.bytes)
