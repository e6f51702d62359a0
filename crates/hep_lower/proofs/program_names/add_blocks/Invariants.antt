use Rattle.std.proofs.Common.{◌≡◌, ◌++◌, map, drop}
use Rattle.hep_lower.proofs.program_names.add_blocks.Given as goal
use Rattle.hep_machine.specs.Words.{block_spelling}

abbrev pub invariant-loop-block : goal.invariant-loop-block
invariant-loop-block l = l.names.items ++ map block_spelling (drop l.block-index l.list) ≡ l.initial.names.items ++ map block_spelling l.list
