use Rattle.std.proofs.Common.{◌≡◌, ◌∙◌, Some, sym, ap, subst, length}
use Rattle.hep_machine.specs.Words.{common_cells, frame_of, lowest_gap}
use Rattle.hep_arena.specs.Holes.{first_fit}
use Rattle.hep_layout.specs.Words.{new_node, with_node}
use Rattle.hep_proc.specs.FrameTable.{IsTaken}
use Rattle.hep_proc.specs.Nodes.{nodes_of}
use Rattle.hep_proc.proofs.BegunActivations.{begun-gap, begun-keeps, fit-there}
use Rattle.hep_proc.proofs.Slabs.{entered-nodes, key-there}
use Rattle.hep_proc.proofs.frames.Frames.enter.Goals as goal

pub returns-clause-begun : goal.returns-clause-begun
returns-clause-begun c f t x n h at begun owner number same size =
    let fit = fit-there (first_fit c.args.entrant.cells c.args.self.now.arena.holes) c.requires.gap in
    let before = c.args.self.now.arena in
    let after = c.add-key.new.self.arena in
    let old = nodes_of c.args.self.now.nodes in
    let new = nodes_of c.gain_child.new.nodes in
    let v = c.add-key.result in
    let k = c.args.entrant.parent in
    let entered = entered-nodes old (nodes_of c.add-key.new.self.nodes) new v k (new_node c.args.entrant.activation c.args.entrant.unit fit.0 c.args.entrant.cells k) c.add-key.ensures.vacant (key-there c.args.self.now.nodes k n at) (c.add-key.ensures.node fit.0 fit.1) c.add-key.ensures.others c.gain_child.ensures.more in
    let nodes : new ≡ with_node old v (new_node (length t.activations) x.unit fit.0 (frame_of f.program t (length t.activations)) k) k =
    entered ∙ (ap (λ a. with_node old v (new_node a c.args.entrant.unit fit.0 c.args.entrant.cells k) k) number
    ∙ (ap (λ u. with_node old v (new_node (length t.activations) u fit.0 c.args.entrant.cells k) k) same ∙ ap (λ m. with_node old v (new_node (length t.activations) x.unit fit.0 m k) k) size)) in
    let fit_here : first_fit (frame_of f.program t (length t.activations)) before.holes ≡ Some fit.0 = ap (λ m. first_fit m before.holes) (sym size) ∙ fit.1 in
    let took = subst (λ m. IsTaken m fit.0 before after) size (c.add-key.ensures.taken fit.0 fit.1) in
    (fit.0, ap (λ m. lowest_gap (length before.contents) m (common_cells f.program) f.layout) size ∙ begun-gap f t x before after old new v k fit.0 n h at begun owner c.add-key.ensures.vacant fit_here took nodes, begun-keeps f t x before after old new v k fit.0 n h at begun owner c.add-key.ensures.vacant fit_here took nodes)
