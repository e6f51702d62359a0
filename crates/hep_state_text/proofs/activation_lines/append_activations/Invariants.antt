use Rattle.std.proofs.Common.{◌≡◌, ℕ, suc, List, ◌++◌, drop}
use Rattle.hep_machine.specs.Words.{run}
use Rattle.hep_state.specs.Words.{IsMachineAfter}
use Rattle.hep_state_text.specs.States as words
use Rattle.hep_state_text.proofs.activation_lines.append_activations.Given as goal

abbrev pub invariant-loop-index : goal.invariant-loop-index
invariant-loop-index l =
    (cells : ℕ) (choices : List ℕ) → IsMachineAfter l.storage.image.now cells choices l.machine
    → l.text.items ++ words.activations_text l.storage.image.now (run l.storage.image.now choices) (suc l.index) (drop l.index (run l.storage.image.now choices).activations)
    ≡ l.initial.text.items ++ words.activations_text l.storage.image.now (run l.storage.image.now choices) 1 (run l.storage.image.now choices).activations
