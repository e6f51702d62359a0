use Rattle.std.proofs.Common.{◌≡◌, ◌<◌, ◌-◌, ℕ, Some, slice_get}
use Rattle.hep_layout.specs.Words.{FrameNode}
use Rattle.hep_proc.specs.Nodes.{nodes_of}
use Rattle.hep_proc.specs.declared.process.Local.{Local}
use Rattle.hep_state_text.specs.NodeKeys.{AreFrom, AreKeys, IsNoted, StayNoted}
use Rattle.hep_state_text.proofs.held_activations.note_levels.Given as goal

abbrev pub invariant-loop-level : goal.invariant-loop-level
invariant-loop-level l =
    record {
      keys : AreKeys (nodes_of l.frames.nodes) l.keys.items;
      still : StayNoted l.initial.keys.items l.keys.items;
      only : AreFrom l.initial.keys.items l.levels l.keys.items;
      noted : (i : ℕ) (k : Local) (n : FrameNode) → i < l.level-index → slice_get l.levels i ≡ Some k → nodes_of l.frames.nodes k.key ≡ Some n → IsNoted l.keys.items (n.activation - 1);
    }
