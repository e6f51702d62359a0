use Rattle.std.proofs.Common.{◌≡◌, ◌+◌, ◌-◌, ◌*◌, ◌<◌, ◌≤◌, length-set, ◌∙◌, arith}
use Rattle.std.proofs.lemmas.List.{drop-set-lt}
use Rattle.hep_arena.proofs.Numbering.{filled-step}
use Rattle.hep_arena.proofs.Nodes.{number-read}
use Rattle.hep_arena.proofs.tree.fill_tops.Goals as goal

pub loop-node-preserved : goal.loop-node-preserved
loop-node-preserved c =
    let greatest = c.loop-node.greatest.items in
    let i = c.loop-node.invariant in
    let node = c.loop-node.node - 1 in
    let some : 1 ≤ c.loop-node.node - 1 = omega (arith, c.loop-node-test.true) in
    let next : c.loop-node.node ≡ c.loop-node.node - 1 + 1 = omega (arith, c.loop-node-test.true) in
    let inner : c.loop-node.node - 1 < c.args.size = omega (arith, c.loop-node-test.true, c.loop-node.auto.node) in
    let left = number-read greatest (2 * node) c.index.result.now (omega (arith, i.nodes, inner)) c.index.ensures in
    let right = number-read greatest (2 * node + 1) c.index-in-loop-node.result.now (omega (arith, i.nodes, inner)) c.index-in-loop-node.ensures in
    record {
      tops = filled-step greatest c.args.size node c.max.result c.loop-node.node some next (omega (arith, i.nodes, inner)) (cc (c.max.ensures, left, right)) i.tops;
      leaves = drop-set-lt c.args.size greatest node c.max.result inner ∙ i.leaves;
      nodes = length-set greatest node c.max.result ∙ i.nodes;
    }
