use Rattle.std.proofs.Common.{◌≡◌, ◌++◌, drop}
use Rattle.hep_explore.specs.Contents.{keys_among}
use Rattle.hep_explore.proofs.key.held_nodes.Given as goal

abbrev pub invariant-loop-key : goal.invariant-loop-key
invariant-loop-key l =
    l.nodes.items ++ keys_among (drop l.key-index l.key-items) ≡ keys_among l.key-items
