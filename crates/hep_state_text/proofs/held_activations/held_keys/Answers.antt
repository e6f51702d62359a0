use Rattle.std.proofs.Common.{◌∙◌, length, subst, sym, arith}
use Rattle.hep_proc.specs.Nodes.{nodes_of}
use Rattle.hep_state_text.specs.NodeKeys.{IsForest}
use Rattle.hep_state_text.proofs.HeldKeys.{all-noted, forest}
use Rattle.hep_state_text.proofs.NodeKeys.{all-still}
use Rattle.hep_state_text.proofs.held_activations.held_keys.Goals as goal

pub note_parents-requires-clause-nodes : goal.note_parents-requires-clause-nodes
note_parents-requires-clause-nodes c =
    subst (IsForest (nodes_of c.args.machine.now.frames.nodes)) (sym c.in_ok-keys.ensures.count) (forest c.requires.0 c.requires.1 c.requires.2 c.args.machine.now c.requires.3)

pub returns : goal.returns
returns c =
    let m = c.args.machine.now in
    let nodes = nodes_of m.frames.nodes in
    let stacked = c.in_ok-keys.ensures in
    let items = m.processes.items in
    all-noted c.requires.0 c.requires.1 c.requires.2 m c.requires.3 c.note_parents.new.keys.items (c.note_parents.ensures.still.count ∙ stacked.count) c.note_parents.ensures.keys c.note_parents.ensures.closed
    (all-still nodes items c.in_ok-keys.keys.items c.note_parents.new.keys.items (length items) (omega arith) c.note_parents.ensures.still (λ i q less e. stacked.all i q e))
