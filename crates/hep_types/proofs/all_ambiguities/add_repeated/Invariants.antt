use Rattle.std.proofs.Common.{◌≡◌, ◌++◌, drop}
use Rattle.indexmap.specs.IndexSet.{contains}
use Rattle.hep_machine.specs.Words.{name_eq, same_name}
use Rattle.hep_types.specs.Ambiguities.{its_name, repeated_from, repeated_names}
use Rattle.hep_types.proofs.all_ambiguities.add_repeated.Given as goal

abbrev pub invariant-loop-name : goal.invariant-loop-name
invariant-loop-name l =
    l.found.items ++ repeated_from same_name its_name (contains name_eq l.seen.set) (drop l.name-index l.uses) ≡ l.initial.found.items ++ repeated_names l.uses
