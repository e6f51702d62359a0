use Rattle.std.proofs.Common.{◌≡◌, ◌++◌, map, drop}
use Rattle.hep_lower.specs.BlockStarts.{block_begun}
use Rattle.hep_lower.proofs.block_starts.starts_of.Given as goal

abbrev pub invariant-loop-block : goal.invariant-loop-block
invariant-loop-block l = l.starts.items ++ map (block_begun l.blocks l.first_cells) (drop l.block-index l.block-items) ≡ map (block_begun l.blocks l.first_cells) l.block-items
