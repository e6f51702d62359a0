use Rattle.std.proofs.Common.{◌≡◌, ℕ, List, ◌++◌, drop}
use Rattle.std.specs.List.{flat_map}
use Rattle.hep_machine.specs.Words.{blocks_of, run}
use Rattle.hep_state.specs.Words.{IsMachineAfter}
use Rattle.hep_state_text.specs.States as words
use Rattle.hep_state_text.proofs.common_variables.append_common.Given as goal

abbrev pub invariant-loop-block : goal.invariant-loop-block
invariant-loop-block l =
    (cells : ℕ) (choices : List ℕ) → IsMachineAfter l.storage.image.now cells choices l.machine
    → l.text.items ++ flat_map (words.block_text l.storage.image.now (run l.storage.image.now choices)) (drop l.block-index (blocks_of l.storage.image.now))
    ≡ l.initial.text.items ++ flat_map (words.block_text l.storage.image.now (run l.storage.image.now choices)) (blocks_of l.storage.image.now)
