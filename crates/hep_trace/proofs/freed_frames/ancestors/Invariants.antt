use Rattle.hep_proc.specs.Nodes.{nodes_of}
use Rattle.hep_trace.proofs.Climbs.{ClimbsTo, HasNode, activation_at}
use Rattle.hep_trace.proofs.freed_frames.ancestors.Given as goal

abbrev pub invariant-loop-next : goal.invariant-loop-next
invariant-loop-next l =
    record {
      there : HasNode (nodes_of l.machine.frames.nodes) l.next;
      climbs : ClimbsTo (nodes_of l.machine.frames.nodes) l.key l.activations.items l.next;
    }

abbrev pub decreases-loop-next : goal.decreases-loop-next
decreases-loop-next l = activation_at (nodes_of l.machine.frames.nodes) l.next
