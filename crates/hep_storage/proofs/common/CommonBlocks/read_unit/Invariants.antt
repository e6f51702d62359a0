use Rattle.std.proofs.Common.{◌≡◌, ◌+◌, ◌*◌, ◌^◌, ◌≤◌, max, drop}
use Rattle.std.specs.Option.{option_eq}
use Rattle.indexmap.specs.IndexMap.{get}
use Rattle.hep_machine.specs.Words.{name_eq, BlockName}
use Rattle.hep_storage.specs.Lengths.{cells_in_block, cells_so_far, greatest_length, with_blocks_of, AreKept, IsUnread}
use Rattle.hep_storage.proofs.common.CommonBlocks.read_unit.Given as goal

abbrev pub invariant-loop-entry : goal.invariant-loop-entry
invariant-loop-entry l =
    record {
      blocks : with_blocks_of l.self.blocks.keys (drop l.entry-index l.entries) ≡ with_blocks_of l.initial.self.blocks.keys l.entries;
      cells : (b : BlockName) → cells_so_far l.unit (get (option_eq name_eq) l.self.lengths b) + cells_in_block l.symbols b (drop l.entry-index l.entries) ≡ cells_in_block l.symbols b l.entries;
      longest : (b : BlockName) → greatest_length (get (option_eq name_eq) l.self.lengths b) ≡ max (greatest_length (get (option_eq name_eq) l.initial.self.lengths b)) (cells_so_far l.unit (get (option_eq name_eq) l.self.lengths b));
      kept : AreKept l.self.blocks.keys (get (option_eq name_eq) l.self.lengths);
      unread : IsUnread (l.unit + 1) (get (option_eq name_eq) l.self.lengths);
      bounded : (b : BlockName) → cells_so_far l.unit (get (option_eq name_eq) l.self.lengths b) ≤ 2 ^ 32 * l.entry-index;
    }
