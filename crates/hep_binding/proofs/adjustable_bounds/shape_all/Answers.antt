use Rattle.std.proofs.Common.{◌≡◌, ◌+◌, ◌≤◌, length, Some, arith}
use Rattle.hep_proc.specs.Nodes.{nodes_of}
use Rattle.hep_proc.proofs.Slabs.{node-there}
use Rattle.hep_binding.proofs.ShapedDummies.{begins-behind, frame-inside, frame-out}
use Rattle.hep_binding.proofs.adjustable_bounds.shape_all.Goals.{After-cells}
use Rattle.hep_binding.proofs.adjustable_bounds.shape_all.Goals as goal
use Rattle.hep_layout.specs.Words.{FrameNode}

-- the node, and the cells of its frame
here : (c : After-cells) → (n : FrameNode) × (nodes_of c.args.frames.now.nodes c.args.key ≡ Some n)
here c = node-there c.args.frames.now.nodes c.args.key c.requires.there

ends : (c : After-cells) → c.first.result + c.cells.result ≤ length c.args.frames.now.arena.contents
ends c =
    let n = here c in
    let k = c.requires.kept in
    let inside = frame-inside k.0 c.args.frames.now.arena (nodes_of c.args.frames.now.nodes) c.args.key n.0 k.1 n.1 in
    omega (arith, inside, c.first.ensures n.0 n.1, c.cells.ensures n.0 n.1)

pub overflow_add-end : goal.overflow_add-end
overflow_add-end c = let inside = ends c in let few = c.requires.few in omega arith

pub cells_of_all-requires : goal.cells_of_all-requires
cells_of_all-requires c =
    let at = (goal.at.cells_of_all-requires c).After-cells in
    let n = here at in
    omega (arith, ends at, c.requires.few, c.requires.many n.0 n.1, c.cells.ensures n.0 n.1)

pub overflow_sub-at : goal.overflow_sub-at
overflow_sub-at c =
    let n = here (goal.at.overflow_sub-at c).After-cells in
    omega (arith, c.cells_of_all.ensures, c.requires.many n.0 n.1, c.cells.ensures n.0 n.1)

pub shape_from-requires-clause-inside : goal.shape_from-requires-clause-inside
shape_from-requires-clause-inside c =
    let at = (goal.at.shape_from-requires-clause-inside c).After-cells in
    let n = here at in
    omega (arith, ends at, c.cells_of_all.ensures, c.requires.many n.0 n.1, c.cells.ensures n.0 n.1)

pub shape_from-requires-clause-out : goal.shape_from-requires-clause-out
shape_from-requires-clause-out c p low high =
    let at = (goal.at.shape_from-requires-clause-out c).After-cells in
    let n = here at in
    let k = c.requires.kept in
    frame-out k.0 c.args.frames.now.arena (nodes_of c.args.frames.now.nodes) c.args.key n.0 k.1 n.1 p
    (omega (arith, low, c.cells_of_all.ensures, c.requires.many n.0 n.1, c.first.ensures n.0 n.1, c.cells.ensures n.0 n.1))
    (omega (arith, high, c.cells_of_all.ensures, c.requires.many n.0 n.1, c.first.ensures n.0 n.1, c.cells.ensures n.0 n.1))

pub returns-clause-shaped : goal.returns-clause-shaped
returns-clause-shaped c f a n kept there framed shaping =
    c.shape_from.ensures.shaped f a framed.frame kept framed.framed
    (begins-behind f a n c.args.shapes.now _ framed shaping
    (omega (arith, c.cells_of_all.ensures, c.requires.many n there, c.first.ensures n there, c.cells.ensures n there)))
    shaping
