use Rattle.std.proofs.Common.{◌≡◌, ◌&&◌, drop}
use Rattle.indexmap.specs.IndexSet.{contains}
use Rattle.hep_machine.specs.Words.{Name, is_among, name_eq, names_listed}
use Rattle.hep_names.specs.Tables.{either, may_refer}
use Rattle.hep_names.proofs.list_table.referenced_names.Given as goal

abbrev pub invariant-loop-statement : goal.invariant-loop-statement
invariant-loop-statement l = (x : Name) → either (contains name_eq l.names.set x) (may_refer l.arrays x && is_among x (names_listed (drop l.statement-index l.statement-items))) ≡ (may_refer l.arrays x && is_among x (names_listed l.arrays))
