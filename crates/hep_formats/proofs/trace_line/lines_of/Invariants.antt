use Rattle.std.proofs.Common.{◌≡◌, ◌++◌, length, map}
use Rattle.hep_text.specs.Line as words
use Rattle.hep_formats.proofs.trace_line.lines_of.Given as goal

abbrev pub decreases-loop-rest : goal.decreases-loop-rest
decreases-loop-rest l = length l.rest

abbrev pub invariant-loop-rest : goal.invariant-loop-rest
invariant-loop-rest l = map (λ line. line.now) l.found.items ++ words.lines l.rest ≡ words.lines l.text
