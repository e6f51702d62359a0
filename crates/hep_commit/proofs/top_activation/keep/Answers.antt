use Rattle.std.proofs.Common.{◌<◌, ◌∙◌, ap, length, subst, sym}
use Rattle.hep_proc.proofs.Levels.{operands-are, some-levels}
use Rattle.hep_proc.specs.declared.process.Local.{Local}
use Rattle.hep_commit.specs.OwnCells.{own_cells_of}
use Rattle.hep_commit.specs.UndoLogs.{saved_value, slots_of}
use Rattle.hep_commit.proofs.top_activation.keep.Goals as goal

pub place-index-requires : goal.place-index-requires
place-index-requires c = let r = c.requires.1 in (r.l, r.ls, r.operands, r.pending, r.stack, r.there)

pub top-level-requires : goal.top-level-requires
top-level-requires c = let r = c.requires.1 in some-levels c.args.process.now r.l r.ls r.operands r.pending r.stack

pub cells-cells-requires-clause-inside : goal.cells-cells-requires-clause-inside
cells-cells-requires-clause-inside c =
    let r = c.requires.1 in
    subst (λ (l : Local). l.unit < length c.args.owned.now.image.now) (sym (c.top-level.ensures r.l r.ls r.operands r.pending r.stack)) r.there.0

pub returns-clause-kept : goal.returns-clause-kept
returns-clause-kept c l ls operands pending is =
    let image = c.args.owned.now.image.now in
    let at = c.place-index.ensures l ls operands pending is in
    let cells = c.cells-cells.ensures ∙ ap (λ (k : Local). own_cells_of image k.unit) (c.top-level.ensures l ls operands pending is) in
    let values = c.in_ok-keep_operands.ensures ∙ (c.deref.ensures.value ∙ operands-are c.args.process.now l ls operands pending is) in
    let slots = c.in_ok-keep_slots.ensures ∙ (λ i. slots_of (at.framed i).first (cells i) (c.slots_mut.ensures.value i)) in
    λ i. saved_value (slots i) (values i) (at.at i)
