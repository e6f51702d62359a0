use Rattle.std.proofs.Common.{◌≡◌, drop}
use Rattle.std.specs.List.{fold}
use Rattle.hep_formats.specs.TurnMarks as words
use Rattle.hep_formats.proofs.turn_mark.highest_process.Given as goal

abbrev pub invariant-loop-mark : goal.invariant-loop-mark
invariant-loop-mark l =
    fold (λ n mark. words.higher n (words.higher mark.process mark.created)) l.highest (drop l.mark-index l.marks)
    ≡ words.highest_process l.marks
