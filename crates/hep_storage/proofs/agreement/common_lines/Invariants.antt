use Rattle.std.proofs.Common.{◌≡◌, ◌||◌, ℕ, Bool, drop, None, false}
use Rattle.std.specs.List.{list_any}
use Rattle.indexmap.specs.IndexSet.{contains}
use Rattle.hep_machine.specs.Words.{Name, name_eq, BlockName, blocks_of}
use Rattle.hep_storage.specs.Agreement.{passes_of_blocks, nothing_summed}
use Rattle.hep_storage.specs.BlockTable.{block_at, summed_in, entry_at}
use Rattle.hep_storage.proofs.agreement.common_lines.Given as goal

abbrev pub invariant-loop-symbols : goal.invariant-loop-symbols
invariant-loop-symbols l =
    record {
      lines : (test : ℕ → Bool) → (list_any test l.lines.items || passes_of_blocks test (blocks_of l.program) (λ b. summed_in (entry_at l.met.table b)) (drop l.symbols-index l.program))
          ≡ passes_of_blocks test (blocks_of l.program) (λ b. nothing_summed) l.program;
      none : (b : BlockName) → block_at (entry_at l.met.table b) ≡ None;
      unread : (x : Name) → contains name_eq l.met.noted x ≡ false;
    }
