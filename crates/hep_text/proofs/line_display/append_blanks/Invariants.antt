use Rattle.std.proofs.Common.{◌≡◌, ◌++◌, replicate}
use Rattle.hep_text.proofs.line_display.append_blanks.Given as goal

abbrev pub invariant-loop-blank : goal.invariant-loop-blank
invariant-loop-blank l = l.text.items ≡ l.fn.text.items ++ replicate l._blank 32
