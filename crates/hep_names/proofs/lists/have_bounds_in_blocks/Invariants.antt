use Rattle.std.proofs.Common.{◌≡◌, drop}
use Rattle.std.specs.List.{flat_map}
use Rattle.hep_machine.specs.Words.{entries_of_blocks}
use Rattle.hep_conditions.specs.Words.{trees_in_declarator}
use Rattle.hep_names.proofs.lists.have_bounds_in_blocks.Given as goal

abbrev pub invariant-loop-block : goal.invariant-loop-block
invariant-loop-block l = flat_map trees_in_declarator (entries_of_blocks (drop l.block-index l.blocks)) ≡ flat_map trees_in_declarator (entries_of_blocks l.blocks)
