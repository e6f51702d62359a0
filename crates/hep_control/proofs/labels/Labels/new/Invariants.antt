use Rattle.std.proofs.Common.{◌≡◌, ℕ, nat_eq, drop}
use Rattle.indexmap.specs.IndexMap.{get}
use Rattle.hep_machine.specs.Words.{index_labelled}
use Rattle.hep_control.proofs.Labelled.{index_from}
use Rattle.hep_control.proofs.labels.Labels.new.Given as goal

abbrev pub invariant-loop-index : goal.invariant-loop-index
invariant-loop-index l = (k : ℕ) → index_from (get nat_eq l.indices k) l.index (drop l.index l.unit) k ≡ index_labelled l.unit k
