use Rattle.std.proofs.Common.{◌≡◌, drop}
use Rattle.std.specs.Option.{option_or}
use Rattle.indexmap.specs.IndexMap.{get}
use Rattle.hep_machine.specs.Words.{Name, name_eq}
use Rattle.hep_names.specs.Tables.{index_from}
use Rattle.hep_names.proofs.specification.numbered.Given as goal

abbrev pub invariant-loop-index : goal.invariant-loop-index
invariant-loop-index l = (x : Name) → option_or (get name_eq l.table.map x) (index_from l.index x (drop l.index l.dummies)) ≡ index_from 0 x l.dummies
