use Rattle.std.proofs.Common.{sym, ◌∙◌, subst, IsSome}
use Rattle.hep_proc.specs.Nodes.{nodes_of}
use Rattle.hep_views.proofs.Holders.{walk-ends, walk-goes_on}
use Rattle.hep_views.proofs.lookup.holder.Goals as goal

pub returns-then-has_cell : goal.returns-then-has_cell
returns-then-has_cell c =
    let nodes = nodes_of c.args.frames.now.nodes in
    let some = subst IsSome (sym c.loop.invariant) c.requires in
    sym c.loop.invariant
    ∙ walk-ends nodes c.args.cell c.args.most c.loop.counter c.loop.at c.loop-test.true c.has_cell.result c.has_cell.ensures some
    c.if-has_cell.true

pub loop-preserved : goal.loop-preserved
loop-preserved c =
    let nodes = nodes_of c.args.frames.now.nodes in
    let some = subst IsSome (sym c.loop.invariant) c.requires in
    walk-goes_on nodes c.args.cell c.args.most c.loop.counter c.loop.at c.loop-test.true c.has_cell.result c.has_cell.ensures some
    c.parent.result c.in-Some.above c.parent.ensures c.in-Some.is c.if-has_cell.false
    ∙ c.loop.invariant
