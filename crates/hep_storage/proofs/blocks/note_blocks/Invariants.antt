use Rattle.std.proofs.Common.{ℕ, ◌++◌, List, Option, take}
use Rattle.indexmap.specs.IndexSet.{contains}
use Rattle.hep_machine.specs.Words.{Name, name_eq, BlockName}
use Rattle.hep_storage.specs.BlockContents.{Has, names_under, later_line}
use Rattle.hep_storage.specs.BlockTable.{contents_in, AreRead, entry_at}
use Rattle.hep_storage.proofs.blocks.note_blocks.Given as goal

abbrev pub invariant-loop-list : goal.invariant-loop-list
invariant-loop-list l =
    record {
      has : (b : BlockName) (xs : List Name) (before : Option ℕ) → Has l.symbols (contains name_eq l.initial.noted) b xs before (contents_in (entry_at l.initial.table b))
          → Has l.symbols (contains name_eq l.noted) b (xs ++ names_under b (take l.list-index l.lists)) (later_line b before l.line (take l.list-index l.lists)) (contents_in (entry_at l.table b));
      read : AreRead (entry_at l.initial.table) (entry_at l.table) l.initial.named.items l.named.items;
    }
