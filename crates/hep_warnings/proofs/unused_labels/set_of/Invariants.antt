use Rattle.std.proofs.Common.{◌≡◌, ℕ, ◌||◌, nat_eq, drop}
use Rattle.std.specs.List.{list_any}
use Rattle.indexmap.specs.IndexSet.{contains}
use Rattle.hep_warnings.proofs.unused_labels.set_of.Given as goal

abbrev pub invariant-loop-label : goal.invariant-loop-label
invariant-loop-label l = (k : ℕ) → (list_any (nat_eq k) (drop l.label-index l.used) || contains nat_eq l.set k) ≡ list_any (nat_eq k) l.used
