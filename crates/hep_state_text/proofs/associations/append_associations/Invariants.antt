use Rattle.std.proofs.Common.{◌≡◌, ℕ, List, ◌++◌, drop}
use Rattle.std.specs.List.{flat_map}
use Rattle.hep_machine.specs.Words.{dummies_of, run, scope_of}
use Rattle.hep_state_text.specs.Associations.{IsStackedAt}
use Rattle.hep_state_text.specs.States as words
use Rattle.hep_state_text.proofs.associations.append_associations.Given as goal

abbrev pub invariant-loop-index : goal.invariant-loop-index
invariant-loop-index l =
    (cells : ℕ) (choices : List ℕ) (a : ℕ) → IsStackedAt l.frame l.unit cells choices a
    → l.text.items ++ flat_map (words.association_text l.frame.image.now (run l.frame.image.now choices) (scope_of l.frame.image.now (run l.frame.image.now choices) a)) (drop l.index (dummies_of l.unit.symbols.now))
    ≡ l.initial.text.items ++ flat_map (words.association_text l.frame.image.now (run l.frame.image.now choices) (scope_of l.frame.image.now (run l.frame.image.now choices) a)) (dummies_of l.unit.symbols.now)
