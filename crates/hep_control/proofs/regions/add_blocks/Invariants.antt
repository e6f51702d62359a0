use Rattle.std.proofs.Common.{◌≡◌, ◌++◌, drop, map}
use Rattle.hep_control.specs.Jumps.{region, blocks_from, blocks_in}
use Rattle.hep_control.proofs.regions.add_blocks.Given as goal

abbrev pub invariant-loop-division : goal.invariant-loop-division
invariant-loop-division l =
    map region l.regions.items ++ blocks_from l.start (drop l.division-index l.division-items) l.block.end
    ≡ map region l.initial.regions.items ++ blocks_in l.block
