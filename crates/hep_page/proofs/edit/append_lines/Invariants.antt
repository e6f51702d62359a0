use Rattle.std.proofs.Common.{◌≡◌, ◌++◌, drop, map}
use Rattle.hep_page.specs.Edits as words
use Rattle.hep_page.proofs.edit.append_lines.Given as goal

abbrev pub invariant-loop-line : goal.invariant-loop-line
invariant-loop-line l =
    l.text.items ++ words.lines_text (map (λ line. line.now) (drop l.line-index l.lines))
    ≡ l.initial.text.items ++ words.lines_text (map (λ line. line.now) l.lines)
