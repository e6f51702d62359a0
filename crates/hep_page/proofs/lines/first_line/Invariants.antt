use Rattle.std.proofs.Common.{◌≡◌, drop, take}
use Rattle.hep_page.specs.Edits as words
use Rattle.hep_page.proofs.Joined.{with_bytes}
use Rattle.hep_page.proofs.lines.first_line.Given as goal

abbrev pub invariant-loop-i : goal.invariant-loop-i
invariant-loop-i l = words.lines_in l.text ≡ with_bytes (take l.i l.text) (words.lines_in (drop l.i l.text))
