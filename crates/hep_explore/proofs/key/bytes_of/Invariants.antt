use Rattle.std.proofs.Common.{◌≡◌, ◌++◌, drop}
use Rattle.hep_explore.specs.Keys.{bytes_of}
use Rattle.hep_explore.proofs.key.bytes_of.Given as goal

abbrev pub invariant-loop-word : goal.invariant-loop-word
invariant-loop-word l = l.bytes.items ++ bytes_of (drop l.word-index l.words) ≡ bytes_of l.words
