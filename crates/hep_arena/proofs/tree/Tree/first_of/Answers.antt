use Rattle.std.proofs.Common.{arith}
use Rattle.hep_arena.proofs.Nodes.{leftmost-double, root-inside, root-none}
use Rattle.hep_arena.proofs.tree.Tree.first_of.Goals as goal

pub returns-then-root-least : goal.returns-then-root-least
returns-then-root-least c =
    let t = c.args.self.now in
    let tree = c.requires.tree in
    root-none t.greatest.items t.size c.args.least tree.tops t.levels tree.nodes tree.leaves (omega (arith, c.root.ensures, c.if-root-least.true)) c.requires.some

pub first_below-requires-clause-inside : goal.first_below-requires-clause-inside
first_below-requires-clause-inside c =
    let t = c.args.self.now in
    let tree = c.requires.tree in
    let inner = root-inside t.size t.greatest.items tree.nodes (omega (arith, c.root.ensures, c.if-root-least.false, c.requires.some)) in
    omega (arith, leftmost-double t.levels 1, tree.leaves inner)
