use Rattle.std.proofs.Common.{◌≤◌, ◌+◌, subst, length, drop, arith}
use Rattle.std.proofs.lemmas.List.{drop_more}
use Rattle.hep_storage.specs.Agreement.{AreAmong}
use Rattle.hep_storage.specs.BlockTable.{block_at, entry_at}
use Rattle.hep_storage.proofs.WrongGroups.{gathered-start, gathered-next, gathered-end}
use Rattle.hep_storage.proofs.RunLists.{among-next, all-settled}
use Rattle.hep_storage.proofs.agreement.add_in_unit.Goals as goal

pub loop-block-init : goal.loop-block-init
loop-block-init c = record { gathered = gathered-start; among = c.requires }

pub loop-block-preserved : goal.loop-block-preserved
loop-block-preserved c =
    let old = entry_at c.loop-block.table in
    let i = c.loop-block.block-index in
    record {
      gathered = gathered-next _ c.settle-line.result c.loop-block.invariant.gathered c.settle-line.ensures.left c.settle-line.ensures.added c.settle-line.ensures.line c.in_ok-add_line.ensures;
      among =
          among-next _ (drop (i + 1) c.args.named.now) (λ b. block_at (old b)) (λ b. block_at (entry_at c.settle-line.new.table b)) c.settle-line.ensures.left
          (subst (λ ks. AreAmong ks (λ b. block_at (old b))) (drop_more c.args.named.now i _ c.loop-block-test.true) c.loop-block.invariant.among);
    }

pub returns : goal.returns
returns c =
    let e = c.loop-block-test.false in
    let k : length c.args.named.now ≤ c.loop-block.block-index = omega arith in
    let none = all-settled c.args.named.now c.loop-block.block-index (λ b. block_at (entry_at c.loop-block.table b)) k c.loop-block.invariant.among in
    let end = gathered-end c.loop-block.invariant.gathered none in
    record { lines = end.1; added = end.0; none = none }
