use Rattle.std.proofs.Common.{◌≤◌, ◌+◌, ℕ, length}
use Rattle.hep_proc.specs.Nodes.{nodes_of}
use Rattle.hep_state_text.specs.NodeKeys.{AreKeys, IsClosedAt, StayNoted}
use Rattle.hep_state_text.proofs.held_activations.note_parents.Given as goal

abbrev pub invariant-loop-step : goal.invariant-loop-step
invariant-loop-step l =
    record {
      keys : AreKeys (nodes_of l.frames.nodes) l.keys.items;
      still : StayNoted l.initial.keys.items l.keys.items;
      closed : (i : ℕ) → length l.initial.keys.items ≤ i + l.step → IsClosedAt (nodes_of l.frames.nodes) l.keys.items i;
    }
