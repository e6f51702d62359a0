use Rattle.std.proofs.Common.{◌<◌, ◌∙◌, ap, arith, length, subst, sym}
use Rattle.hep_code.specs.Words.{deepest}
use Rattle.hep_private.specs.OwnState.{values_at}
use Rattle.hep_proc.proofs.Levels.{operands-are, some-levels}
use Rattle.hep_proc.specs.declared.process.Local.{Local}
use Rattle.hep_private.specs.Segments.{ticket_value}
use Rattle.hep_commit.specs.SegmentStarts.{copies_of}
use Rattle.hep_commit.specs.OwnCells.{own_cells_of}
use Rattle.hep_commit.proofs.top_activation.ticket_of.Goals as goal

pub place-index-requires : goal.place-index-requires
place-index-requires c = let r = c.requires.1 in (r.l, r.ls, r.operands, r.pending, r.stack, r.there)

pub top-level-requires : goal.top-level-requires
top-level-requires c = let r = c.requires.1 in some-levels c.args.process.now r.l r.ls r.operands r.pending r.stack

pub cells-cells-requires-clause-inside : goal.cells-cells-requires-clause-inside
cells-cells-requires-clause-inside c =
    let r = c.requires.1 in
    subst (λ (l : Local). l.unit < length c.args.owned.now.image.now) (sym (c.top-level.ensures r.l r.ls r.operands r.pending r.stack)) r.there.0

pub new-requires : goal.new-requires
new-requires c =
    let r = c.requires.1 in
    let at = c.place-index.ensures r.l r.ls r.operands r.pending r.stack in
    omega (arith, ap length (c.in_ok-keep_operands.ensures ∙ (c.deref.ensures.value ∙ operands-are c.args.process.now r.l r.ls r.operands r.pending r.stack)), r.few, at.code.operands, at.code.few_operands, ap deepest at.code.code)

pub returns-clause-ticket : goal.returns-clause-ticket
returns-clause-ticket c l ls operands pending is =
    let image = c.args.owned.now.image.now in
    let at = c.place-index.ensures l ls operands pending is in
    let top = c.top-level.ensures l ls operands pending is in
    let cells = c.cells-cells.ensures ∙ ap (λ (k : Local). own_cells_of image k.unit) top in
    let values = c.in_ok-keep_operands.ensures ∙ (c.deref.ensures.value ∙ operands-are c.args.process.now l ls operands pending is) in
    let copies = c.in_ok-keep_copies.ensures ∙ (λ i. copies_of (values_at (c.slots_mut.ensures.value i) (at.framed i).first) (cells i)) in
    c.new.ensures ∙ (λ i. ticket_value c.args.id (top i).unit (at.at i) (values i) (copies i))
