use Rattle.std.proofs.Common.{◌≡◌, ◌≤◌, ◌++◌, ℕ}
use Rattle.hep_explore.specs.Keys.{groups_of, word_bytes}
use Rattle.hep_explore.proofs.key.append_word.Given as goal

abbrev pub invariant-loop-left : goal.invariant-loop-left
invariant-loop-left l =
    (more : ℕ) × (l.left ≤ more) × (l.bytes.items ++ groups_of more l.left ≡ l.initial.bytes.items ++ word_bytes l.fn.word)

abbrev pub decreases-loop-left : goal.decreases-loop-left
decreases-loop-left l = l.left
