use Rattle.std.proofs.Common.{◌≡◌, ◌++◌, drop}
use Rattle.indexmap.specs.IndexMap.{get}
use Rattle.hep_machine.specs.Words.{name_eq}
use Rattle.hep_types.specs.Ambiguities.{met_from}
use Rattle.hep_types.proofs.all_ambiguities.add_met.Given as goal

abbrev pub invariant-loop-name : goal.invariant-loop-name
invariant-loop-name l = l.found.items ++ met_from (get name_eq l.lines) (drop l.name-index l.uses) ≡ l.initial.found.items ++ met_from (get name_eq l.lines) l.uses
