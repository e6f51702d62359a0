use Rattle.std.proofs.Common.{◌≡◌, ℕ, ◌*◌, ◌<◌, ◌≤◌, drop, length}
use Rattle.hep_arena.specs.Trees.{IsTop}
use Rattle.hep_arena.proofs.tree.fill_tops.Given as goal

abbrev pub invariant-loop-node : goal.invariant-loop-node
invariant-loop-node l = record {
  tops : (i : ℕ) → 1 ≤ i → l.node ≤ i → i < l.size → IsTop l.greatest.items i;
  leaves : drop l.size l.greatest.items ≡ drop l.size l.fn.greatest.items;
  nodes : length l.greatest.items ≡ 2 * l.size;
}
