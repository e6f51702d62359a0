use Rattle.std.proofs.Common.{arith}
use Rattle.std.proofs.lemmas.Bool.{leb-true, leb-false}
use Rattle.hep_arena.proofs.Nodes.{root-none, root-some}
use Rattle.hep_arena.proofs.tree.Tree.has.Goals as goal

pub returns : goal.returns
returns c =
    let t = c.args.self.now in
    let tree = c.requires.tree in
    record {
      some = λ on. root-some t.greatest.items t.size c.args.least tree.tops t.levels tree.nodes tree.leaves (omega (arith, leb-true _ _ on, c.root.ensures)) c.requires.some;
      none = λ off. root-none t.greatest.items t.size c.args.least tree.tops t.levels tree.nodes tree.leaves (omega (arith, leb-false _ _ off, c.root.ensures)) c.requires.some;
    }
