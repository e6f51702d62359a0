use Rattle.std.proofs.Common.{◌≡◌, ◌++◌, drop}
use Rattle.hep_machine.specs.Words.{entries_of_blocks}
use Rattle.hep_types.specs.Uses.{names_bounded}
use Rattle.hep_types.proofs.uses.bounded_in_blocks.Given as goal

abbrev pub invariant-loop-block : goal.invariant-loop-block
invariant-loop-block l = l.names.items ++ names_bounded (entries_of_blocks (drop l.block-index l.blocks)) ≡ names_bounded (entries_of_blocks l.blocks)
