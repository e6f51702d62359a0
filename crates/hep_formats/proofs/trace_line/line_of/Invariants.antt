use Rattle.std.proofs.Common.{◌≡◌, drop, map}
use Rattle.hep_formats.specs.TraceLines as words
use Rattle.hep_formats.proofs.trace_line.line_of.Given as goal

abbrev pub invariant-loop-line : goal.invariant-loop-line
invariant-loop-line l =
    words.line_of l.p (map (λ line. line.now) (drop l.line-index l.lines)) ≡ words.line_of l.p (map (λ line. line.now) l.lines)
