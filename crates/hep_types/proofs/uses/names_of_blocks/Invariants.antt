use Rattle.std.proofs.Common.{◌≡◌, ◌++◌, drop, option_to_list}
use Rattle.std.specs.List.{flat_map}
use Rattle.hep_machine.specs.Words.{CommonBlock, block_of}
use Rattle.hep_types.proofs.uses.names_of_blocks.Given as goal

abbrev pub invariant-loop-block : goal.invariant-loop-block
invariant-loop-block l =
    let named = λ (b : CommonBlock). option_to_list (block_of b) in
    l.names.items ++ flat_map named (drop l.block-index l.blocks) ≡ flat_map named l.blocks
