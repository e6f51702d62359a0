use Rattle.std.proofs.Common.{◌≡◌, ◌<◌, List, ℕ, Some, length, reverse, slice_get}
use Rattle.hep_machine.specs.Words.{Units}
use Rattle.hep_explore.specs.Searching.{IsSearch, LeadOn, known_of}
use Rattle.hep_explore.proofs.search.Search.path.Given as goal

abbrev pub invariant-loop-at : goal.invariant-loop-at
invariant-loop-at l = record {
  found : l.at < length l.fn.self.states;
  leads : (program : Units) → IsSearch program (known_of l.fn.self) → (key to : List ℕ) → slice_get l.fn.self.states l.at ≡ Some key
      → slice_get l.fn.self.states l.fn.state ≡ Some to → LeadOn program l.fn.self.cells key to (reverse l.choices.items);
}

abbrev pub decreases-loop-at : goal.decreases-loop-at
decreases-loop-at l = l.at
