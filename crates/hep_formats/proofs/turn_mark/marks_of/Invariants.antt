use Rattle.std.proofs.Common.{◌≡◌, ◌++◌, drop, map}
use Rattle.hep_formats.specs.TurnMarks as words
use Rattle.hep_formats.proofs.turn_mark.marks_of.Given as goal

abbrev pub invariant-loop-line : goal.invariant-loop-line
invariant-loop-line l =
    l.marks.items ++ map words.mark_of (map (λ line. line.now) (drop l.line-index l.lines))
    ≡ map words.mark_of (map (λ line. line.now) l.lines)
