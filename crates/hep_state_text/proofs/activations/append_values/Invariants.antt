use Rattle.std.proofs.Common.{◌≡◌, ℕ, ◌++◌, drop}
use Rattle.std.specs.List.{flat_map}
use Rattle.hep_machine.specs.Words.{Layout, State, Units, dummies_of, scope_of}
use Rattle.hep_state_text.specs.States as words
use Rattle.hep_state_text.specs.Activations.{IsFrameAt}
use Rattle.hep_state_text.proofs.activations.append_values.Given as goal

abbrev pub invariant-loop-index : goal.invariant-loop-index
invariant-loop-index l =
    (program : Units) (s : State) (layout : Layout) (a : ℕ) → IsFrameAt program s layout a l.unit l.first l.frames.arena
    → l.text.items ++ flat_map (words.value_text program s (scope_of program s a)) (drop l.index (dummies_of l.unit.symbols.now))
    ≡ l.initial.text.items ++ flat_map (words.value_text program s (scope_of program s a)) (dummies_of l.unit.symbols.now)
