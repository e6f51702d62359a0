use Rattle.std.proofs.Common.{ℕ, ◌≡◌, ◌≤◌, ◌++◌, List, length, length-drop, replicate, take, ap, ◌∙◌, arith}
use Rattle.std.proofs.lemmas.List.{length-replicate, take-replicate}
use Rattle.hep_arena.specs.Trees.{leaves_of}
use Rattle.hep_arena.proofs.lengths.Lengths.new.Goals as goal

pub returns : goal.returns
returns c =
    let t = c.reserve.new.self in
    let e = c.in_ok-reserve.ensures in
    let added = e.leaves.0 in
    let zeros : leaves_of t ≡ replicate added 0 = e.leaves.1 ∙ ap (λ (xs : List ℕ). xs ++ replicate added 0) c.new-tree.ensures.leaves in
    let room : c.args.places ≤ added = omega (arith, e.room, length-drop t.size t.greatest.items, e.tree.nodes, ap length zeros, length-replicate {A = ℕ} added 0) in
    record {
      zeros = ap (take c.args.places) zeros ∙ take-replicate c.args.places added 0 room;
    }
