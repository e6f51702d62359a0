use Rattle.std.proofs.Common.{◌≡◌, ◌++◌, drop}
use Rattle.std.specs.List.{flat_map}
use Rattle.hep_check.specs.Listing.{block_line}
use Rattle.hep_check.proofs.listing.append_blocks.Given as goal

abbrev pub invariant-loop-block : goal.invariant-loop-block
invariant-loop-block l =
    l.text.items ++ flat_map (block_line l.checked) (drop l.block-index l.block-items) ≡ l.initial.text.items ++ flat_map (block_line l.checked) l.block-items
