use Rattle.std.proofs.Common.{◌≡◌, ◌+◌, ◌-◌}
use Rattle.hep_explore.specs.Searching.{AreExpanded, IsSearch, known_of}
use Rattle.hep_explore.proofs.search.Search.run.Given as goal

abbrev pub invariant-loop-self : goal.invariant-loop-self
invariant-loop-self g l = record {
  search : IsSearch l.fn.image (known_of l.self);
  expanded : AreExpanded l.fn.image l.self.expanded (known_of l.self);
  same : (l.self.cells ≡ l.fn.self.cells) × (l.self.most ≡ l.fn.self.most);
}

abbrev pub decreases-loop-self : goal.decreases-loop-self
decreases-loop-self g l = l.fn.self.most + 1 - l.self.expanded
