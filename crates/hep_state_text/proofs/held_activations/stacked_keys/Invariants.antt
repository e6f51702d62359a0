use Rattle.std.proofs.Common.{◌≡◌, ◌<◌, ℕ, Some, length, slice_get}
use Rattle.hep_proc.specs.Nodes.{nodes_of}
use Rattle.hep_proc.specs.declared.process.Process.{Process}
use Rattle.hep_state_text.specs.NodeKeys.{AreKeys, AreNoted, IsOnFirst}
use Rattle.hep_state_text.proofs.held_activations.stacked_keys.Given as goal

abbrev pub invariant-loop-process : goal.invariant-loop-process
invariant-loop-process l =
    record {
      count : length l.keys.items ≡ l.machine.activations;
      keys : AreKeys (nodes_of l.machine.frames.nodes) l.keys.items;
      only : (i key : ℕ) → slice_get l.keys.items i ≡ Some (Some key) → IsOnFirst l.machine.processes.items l.process-index key;
      noted : (i : ℕ) (q : Process) → i < l.process-index → slice_get l.machine.processes.items i ≡ Some q → AreNoted (nodes_of l.machine.frames.nodes) q.levels.items l.keys.items;
    }
