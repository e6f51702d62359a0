use Rattle.std.proofs.Common.{◌≡◌, ◌++◌, drop, map}
use Rattle.hep_command.proofs.words.copied.Given as goal

abbrev pub invariant-loop-word : goal.invariant-loop-word
invariant-loop-word l = map (λ word. word.now) l.copy.items ++ map (λ word. word.now) (drop l.word-index l.words) ≡ map (λ word. word.now) l.words
