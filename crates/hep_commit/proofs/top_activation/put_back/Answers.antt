use Rattle.std.proofs.Common.{◌<◌, ◌∙◌, ap, arith, length, subst, sym}
use Rattle.hep_proc.proofs.Levels.{some-levels}
use Rattle.hep_proc.specs.declared.process.Local.{Local}
use Rattle.hep_proc.specs.Stacks.{stack_with}
use Rattle.hep_commit.specs.OwnCells.{own_cells_of}
use Rattle.hep_commit.specs.UndoLogs.{with_slots}
use Rattle.hep_commit.proofs.top_activation.put_back.Goals as goal

pub cells-cells-requires-clause-inside : goal.cells-cells-requires-clause-inside
cells-cells-requires-clause-inside c =
    let r = c.requires.owned.1 in
    subst (λ (l : Local). l.unit < length c.args.owned.now.image.now) (sym (c.top-level.ensures r.l r.ls r.operands r.pending r.stack)) r.there.0

pub stand_with-requires : goal.stand_with-requires
stand_with-requires c =
    let r = c.requires.owned.1 in
    record { some = some-levels c.args.process.now r.l r.ls r.operands r.pending r.stack; room = omega (arith, c.requires.room, ap length c.deref-2.ensures.value) }

pub returns-clause-stack : goal.returns-clause-stack
returns-clause-stack c l ls operands pending is =
    c.stand_with.ensures.stack l ls operands pending is ∙ (λ i. stack_with (record l { index = c.args.saved.now.index }) ls (c.deref-2.ensures.value i) pending)

pub returns-clause-cells : goal.returns-clause-cells
returns-clause-cells c l ls operands pending is =
    let image = c.args.owned.now.image.now in
    let at = c.place.ensures l ls operands pending is in
    let cells = c.cells-cells.ensures ∙ ap (λ (k : Local). own_cells_of image k.unit) (c.top-level.ensures l ls operands pending is) in
    c.put_over.ensures.contents ∙ (λ i. with_slots (at.framed i).first (cells i) (c.deref.ensures.value i) c.args.frames.now.arena.contents)
