use Rattle.std.proofs.Common.{◌≡◌, ◌++◌, replicate}
use Rattle.hep_cover.proofs.coverage_text.append_blanks.Given as goal

abbrev pub invariant-loop : goal.invariant-loop
invariant-loop l = l.text.items ≡ l.initial.text.items ++ replicate l.counter 32
