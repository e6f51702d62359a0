use Rattle.std.proofs.Common.{◌≡◌, ◌++◌, List, take}
use Rattle.indexmap.specs.IndexSet.{contains}
use Rattle.hep_machine.specs.Words.{Name, name_eq, BlockName, names_declared}
use Rattle.hep_storage.specs.BlockContents.{AreNoted, Holds, names_into}
use Rattle.hep_storage.proofs.block_contents.BlockContents.add_names.Given as goal

abbrev pub invariant-loop-entry : goal.invariant-loop-entry
invariant-loop-entry l =
    record {
      known : (xs : List Name) → AreNoted l.symbols l.block xs (contains name_eq l.initial.noted) → Holds l.symbols l.block xs l.initial.self
          → Holds l.symbols l.block (xs ++ names_declared (take l.entry-index l.entries)) l.self;
      noted : (b : BlockName) (xs : List Name) → AreNoted l.symbols b xs (contains name_eq l.initial.noted)
          → AreNoted l.symbols b (xs ++ names_into l.block b (names_declared (take l.entry-index l.entries))) (contains name_eq l.noted);
      line : l.self.line ≡ l.initial.self.line;
    }
