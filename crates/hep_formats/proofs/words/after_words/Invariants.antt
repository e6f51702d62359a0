use Rattle.std.proofs.Common.{◌≡◌}
use Rattle.hep_formats.specs.LineWords.{after_words}
use Rattle.hep_formats.proofs.words.after_words.Given as goal

abbrev pub invariant-loop : goal.invariant-loop
invariant-loop l = l.rest ≡ after_words l.counter l.line
