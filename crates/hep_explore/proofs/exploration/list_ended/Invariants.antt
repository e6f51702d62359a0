use Rattle.hep_explore.specs.FoundOutcomes.{AreListed, AreOutcomes}
use Rattle.hep_explore.specs.Searching.{known_of}
use Rattle.hep_explore.proofs.exploration.list_ended.Given as goal

abbrev pub invariant-loop-state : goal.invariant-loop-state
invariant-loop-state l = record {
  outcomes : AreOutcomes l.fn.image l.fn.cells l.found.items;
  listed : AreListed l.fn.image l.fn.cells (known_of l.fn.search) l.state-index l.found.items;
}
