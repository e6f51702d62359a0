use Rattle.std.proofs.Common.{◌≡◌, drop, map, nat_eq, if◌then◌else◌}
use Rattle.std.specs.List.{fold}
use Rattle.hep_formats.specs.TraceLines as words
use Rattle.hep_formats.specs.TurnMarks.{process_of}
use Rattle.hep_formats.proofs.trace_line.last_line_of.Given as goal

abbrev pub invariant-loop-line : goal.invariant-loop-line
invariant-loop-line l =
    fold (λ last line. if nat_eq (process_of line) l.p then line else last) l.last (map (λ line. line.now) (drop l.line-index l.lines))
    ≡ words.last_line_of l.p (map (λ line. line.now) l.lines)
