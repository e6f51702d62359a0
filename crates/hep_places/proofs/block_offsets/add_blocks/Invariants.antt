use Rattle.std.proofs.Common.{◌≡◌, ◌++◌, drop}
use Rattle.hep_places.specs.StorageStarts.{entries_in}
use Rattle.hep_places.proofs.block_offsets.add_blocks.Given as goal

abbrev pub invariant-loop-block : goal.invariant-loop-block
invariant-loop-block l = l.entries.items ++ entries_in (drop l.block-index l.blocks) ≡ l.initial.entries.items ++ entries_in l.blocks
