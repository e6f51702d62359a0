use Rattle.std.proofs.Common.{◌+◌, ◌/◌, ◌<◌, length, get_or-set_same, inl, inr, refl, ◌∙◌, arith}
use Rattle.std.proofs.lemmas.List.{drop-set-lt, drop-set-add}
use Rattle.hep_arena.proofs.Numbering.{mended-begins, mended-step, sides-max}
use Rattle.hep_arena.proofs.Nodes.{number-read}
use Rattle.hep_arena.proofs.tree.Tree.put.Goals as goal

pub loop-node-init : goal.loop-node-init
loop-node-init c =
    let t = c.args.self.now in
    let tree = c.requires.tree in
    record {
      mended = mended-begins t.greatest.items t.size (t.size + c.args.at) c.args.number (omega arith) (omega arith) (omega arith) tree.nodes tree.tops;
      top = get_or-set_same t.greatest.items (t.size + c.args.at) c.args.number 0 (omega (arith, tree.nodes, c.requires.inside));
      leaves = drop-set-add t.size t.greatest.items c.args.at c.args.number;
      size = refl;
      levels = refl;
    }

pub loop-node-preserved : goal.loop-node-preserved
loop-node-preserved c =
    let t = c.loop-node.self in
    let i = c.loop-node.invariant in
    let up = c.loop-node.node / 2 in
    let inner : up < t.size = omega (arith, i.mended.inside) in
    let there : c.other_side.result < length t.greatest.items = elim c.other_side.ensures [ inl s ↦ omega (arith, s, inner, i.mended.nodes) | inr s ↦ omega (arith, s, inner, i.mended.nodes) ] in
    let other = number-read t.greatest.items c.other_side.result c.index.result.now there c.index.ensures in
    let greater = sides-max t.greatest.items c.loop-node.node c.other_side.result up c.loop-node.top c.index.result.now i.top other c.other_side.ensures in
    record {
      mended = mended-step t.greatest.items t.size c.loop-node.node (c.max-top.result) i.mended c.loop-node-test.true (c.max-top.ensures ∙ greater);
      top = get_or-set_same t.greatest.items up c.max-top.result 0 (omega (arith, inner, i.mended.nodes));
      leaves = drop-set-lt t.size t.greatest.items up (c.max-top.result) inner ∙ i.leaves;
      size = i.size;
      levels = i.levels;
    }
