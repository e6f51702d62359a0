use Rattle.std.proofs.Common.{◌≡◌, ◌++◌, max, drop}
use Rattle.std.specs.List.{flat_map}
use Rattle.std.specs.Option.{option_eq}
use Rattle.indexmap.specs.IndexMap.{get}
use Rattle.hep_machine.specs.Words.{name_eq, BlockName, blocks_of_unit, blocks_of, with_blocks, block_cells}
use Rattle.hep_storage.specs.Lengths.{entries_of_program, greatest_length, AreKept, IsUnread}
use Rattle.hep_storage.proofs.common.CommonBlocks.of_program.Given as goal

abbrev pub invariant-loop-number : goal.invariant-loop-number
invariant-loop-number l =
    record {
      blocks : with_blocks l.common.blocks.keys (flat_map blocks_of_unit (drop l.number l.program)) ≡ blocks_of l.program;
      lengths : (b : BlockName) → max (greatest_length (get (option_eq name_eq) l.common.lengths b)) (block_cells (drop l.number l.program) b) ≡ block_cells l.program b;
      entries : l.entries.items ++ entries_of_program (drop l.number l.program) ≡ entries_of_program l.program;
      kept : AreKept l.common.blocks.keys (get (option_eq name_eq) l.common.lengths);
      unread : IsUnread l.number (get (option_eq name_eq) l.common.lengths);
    }
