use Rattle.std.proofs.Common.{◌≡◌, ◌++◌, drop}
use Rattle.hep_machine.specs.Words.{letters_of}
use Rattle.hep_warnings.proofs.warning.append_letters.Given as goal

abbrev pub invariant-loop-letter : goal.invariant-loop-letter
invariant-loop-letter l = l.text.items ++ letters_of (drop l.letter-index l.letters) ≡ l.initial.text.items ++ letters_of l.letters
