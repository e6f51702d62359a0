use Rattle.std.proofs.Common.{drop}
use Rattle.hep_storage.specs.Agreement.{AreAmong}
use Rattle.hep_storage.specs.BlockTable.{block_at, summed_in, entry_at}
use Rattle.hep_storage.proofs.WrongGroups.{Gathered}
use Rattle.hep_storage.proofs.agreement.add_in_unit.Given as goal

abbrev pub invariant-loop-block : goal.invariant-loop-block
invariant-loop-block l =
    record {
      gathered : Gathered (λ b. summed_in (entry_at l.initial.table b)) (λ b. summed_in (entry_at l.table b))
          (λ b. block_at (entry_at l.initial.table b)) (λ b. block_at (entry_at l.table b)) l.initial.lines.items l.lines.items;
      among : AreAmong (drop l.block-index l.named) (λ b. block_at (entry_at l.table b));
    }
