use Rattle.std.proofs.Common.{◌≡◌, ◌<◌, ℕ, List, Some, false, slice_get}
use Rattle.hep_machine.specs.Words.{Units, living, run}
use Rattle.hep_proc.specs.declared.process.Process.{Process}
use Rattle.hep_state.specs.Words.{IsMachineAfter}
use Rattle.hep_trace.specs.Ancestry.{has_above}
use Rattle.hep_trace.proofs.held_activations.is_held.Given as goal

abbrev pub invariant-loop-process : goal.invariant-loop-process
invariant-loop-process l =
    (program : Units) (cells : ℕ) (choices : List ℕ) → IsMachineAfter program cells choices l.machine → (i : ℕ) (q : Process) → i < l.process-index
    → slice_get l.machine.processes.items i ≡ Some q → has_above (run program choices) l.a (living (run program choices) q.number) ≡ false
