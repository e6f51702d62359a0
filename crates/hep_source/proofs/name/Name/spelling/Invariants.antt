use Rattle.std.proofs.Common.{◌≡◌, ◌++◌, drop}
use Rattle.hep_source.specs.Names as names
use Rattle.hep_source.proofs.name.Name.spelling.Given as goal

abbrev pub invariant-loop-letter : goal.invariant-loop-letter
invariant-loop-letter l = l.characters.items ++ names.letters_of (drop l.letter-index l.self.letters) ≡ names.spelling l.self
