use Rattle.std.proofs.Common.{◌≡◌, ◌++◌, drop, map}
use Rattle.std.specs.List.{flat_map}
use Rattle.hep_control.specs.Jumps.{region, blocks_in}
use Rattle.hep_control.proofs.regions.add_all_blocks.Given as goal

abbrev pub invariant-loop-block : goal.invariant-loop-block
invariant-loop-block l =
    map region l.regions.items ++ flat_map blocks_in (drop l.block-index l.blocks) ≡ map region l.initial.regions.items ++ flat_map blocks_in l.blocks
