use Rattle.std.proofs.Common.{length, subst}
use Rattle.hep_private.specs.OwnState.{begun}
use Rattle.hep_commit.specs.UndoneStores.{AreOf}
use Rattle.hep_commit.specs.SegmentStarts.{start_in}
use Rattle.hep_commit.specs.OwnCells.{own_cells_of}
use Rattle.hep_commit.proofs.OwnReads.{stored-by}
use Rattle.hep_commit.proofs.Restored.{restored-moved}
use Rattle.hep_commit.proofs.commit_laws.restored_machines_are_as_before.Goals as goal

pub returns : goal.returns
returns c program m new p s levels after made moved =
    let of = subst (λ u. AreOf (own_cells_of program u) s.records) made.0.unit (
    stored-by program s.unit (length s.records) c.private_steps_store_in_own_cells.ensures (begun s.index s.operands (start_in levels).values) s.records made.1.end made.1.made) in
    restored-moved c.saved_cells_undo_stores.ensures program levels after s (own_cells_of program levels.level.unit) of moved
