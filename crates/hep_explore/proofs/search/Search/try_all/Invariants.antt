use Rattle.std.proofs.Common.{◌≡◌}
use Rattle.hep_explore.specs.Searching.{AreTried, GoesOn, IsSearch, known_of}
use Rattle.hep_explore.proofs.search.Search.try_all.Given as goal

abbrev pub invariant-loop-before : goal.invariant-loop-before
invariant-loop-before l = record {
  search : IsSearch l.fn.image (known_of l.self);
  goes_on : GoesOn (known_of l.fn.self) (known_of l.self);
  same : l.self.expanded ≡ l.fn.self.expanded;
  tried : AreTried l.fn.image l.fn.machine l.before l.moved (known_of l.self);
}
