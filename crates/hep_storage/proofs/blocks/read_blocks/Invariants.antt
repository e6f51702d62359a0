use Rattle.std.proofs.Common.{take}
use Rattle.indexmap.specs.IndexSet.{contains}
use Rattle.hep_machine.specs.Words.{name_eq, BlockName, names_in_block}
use Rattle.hep_conditions.specs.Words.{last_line}
use Rattle.hep_storage.specs.BlockContents.{Has}
use Rattle.hep_storage.specs.BlockTable.{contents_in, AreRead, entry_at}
use Rattle.hep_storage.proofs.blocks.read_blocks.Given as goal

abbrev pub invariant-loop-statement : goal.invariant-loop-statement
invariant-loop-statement l =
    record {
      has : (b : BlockName) → Has l.symbols (contains name_eq l.noted) b (names_in_block (take l.statement-index l.symbols) b) (last_line b (take l.statement-index l.symbols)) (contents_in (entry_at l.table b));
      read : AreRead (entry_at l.initial.table) (entry_at l.table) l.initial.named.items l.named.items;
    }
