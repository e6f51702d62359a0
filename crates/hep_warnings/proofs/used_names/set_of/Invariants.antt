use Rattle.std.proofs.Common.{◌≡◌, ◌||◌, drop}
use Rattle.std.specs.List.{list_any}
use Rattle.indexmap.specs.IndexSet.{contains}
use Rattle.hep_machine.specs.Words.{Name, name_eq}
use Rattle.hep_warnings.proofs.used_names.set_of.Given as goal

abbrev pub invariant-loop-name : goal.invariant-loop-name
invariant-loop-name l = (x : Name) → (list_any (name_eq x) (drop l.name-index l.names) || contains name_eq l.set x) ≡ list_any (name_eq x) l.names
