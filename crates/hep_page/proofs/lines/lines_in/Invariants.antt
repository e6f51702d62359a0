use Rattle.std.proofs.Common.{◌≡◌, ◌++◌, length, map}
use Rattle.hep_page.specs.Edits as words
use Rattle.hep_page.proofs.lines.lines_in.Given as goal

abbrev pub decreases-loop-rest : goal.decreases-loop-rest
decreases-loop-rest l = length l.rest

abbrev pub invariant-loop-rest : goal.invariant-loop-rest
invariant-loop-rest l = map (λ line. line.now) l.found.items ++ words.lines_in l.rest ≡ words.lines_in l.text
