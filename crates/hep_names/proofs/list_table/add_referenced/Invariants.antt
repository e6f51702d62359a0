use Rattle.std.proofs.Common.{◌≡◌, ◌&&◌, drop, map}
use Rattle.indexmap.specs.IndexSet.{contains}
use Rattle.hep_machine.specs.Words.{Name, is_among, name_eq, names_listed_by}
use Rattle.hep_names.specs.Lists.{listed}
use Rattle.hep_names.specs.Tables.{either, may_refer}
use Rattle.hep_names.proofs.list_table.add_referenced.Given as goal
use Rattle.hep_conditions.specs.Words.{names_of_lists}

abbrev pub invariant-loop-name : goal.invariant-loop-name
invariant-loop-name l = (x : Name) → either (contains name_eq l.names x) (may_refer l.arrays x && is_among x (names_of_lists (map listed (drop l.name-index l.name-items)))) ≡ either (contains name_eq l.initial.names x) (may_refer l.arrays x && is_among x (names_listed_by l.statement))
