use Rattle.std.proofs.Common.{◌≡◌, ℕ, drop, nat_eq}
use Rattle.indexmap.specs.IndexMap.{get}
use Rattle.hep_why.specs.WaitCycles.{index_from}
use Rattle.hep_why.proofs.wait_graph.indexes_of.Given as goal

abbrev pub invariant-loop-index : goal.invariant-loop-index
invariant-loop-index l = (p : ℕ) → get nat_eq l.indexes.map p ≡ index_from l.index p (drop l.index l.reasons)
