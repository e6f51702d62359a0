use Rattle.std.proofs.Common.{ap, subst, ◌∙◌}
use Rattle.hep_private.specs.OwnState.{values_at}
use Rattle.hep_commit.specs.BatchStarts.{AreThere, slots_with}
use Rattle.hep_commit.specs.OwnCells.{own_cells_of}
use Rattle.hep_commit.specs.UndoLogs.{with_slots}
use Rattle.hep_commit.proofs.BatchStarts.{stored-there}
use Rattle.hep_commit.proofs.batch_stores.store_over.Goals as goal

pub returns-then-has_start-clause-contents : goal.returns-then-has_start-clause-contents
returns-then-has_start-clause-contents c =
    let program = c.args.owned.now.image.now in
    let v = c.args.batch.now in
    let contents = c.args.arena.now.contents in
    let cells = c.cells-cells.ensures ∙ ap (own_cells_of program) c.unit.ensures in
    let there = subst (AreThere c.args.first contents (values_at v.start 0)) cells (c.has_start.ensures.there.0 c.if-has_start.true) in
    c.put_values_over.ensures.contents
    ∙ ((λ i. with_slots c.args.first (cells i) (slots_with (values_at (c.end.ensures i) 0) (cells i)) (c.has_start.ensures.same i).contents)
    ∙ stored-there program v c.requires.made c.private_steps_store_in_own_cells.ensures c.args.first contents there)
