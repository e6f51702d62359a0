use Rattle.hep_proc.specs.Nodes.{nodes_of}
use Rattle.hep_trace.proofs.Climbs.{HasNode, MeetsFrom, activation_at}
use Rattle.hep_trace.proofs.held_activations.is_above.Given as goal

abbrev pub invariant-loop-next : goal.invariant-loop-next
invariant-loop-next l =
    record {
      there : HasNode (nodes_of l.machine.frames.nodes) l.next;
      meets : MeetsFrom (nodes_of l.machine.frames.nodes) l.a l.key l.next;
    }

abbrev pub decreases-loop-next : goal.decreases-loop-next
decreases-loop-next l = activation_at (nodes_of l.machine.frames.nodes) l.next
