use Rattle.std.proofs.Common.{◌≡◌, drop}
use Rattle.indexmap.specs.IndexSet.{contains}
use Rattle.hep_machine.specs.Words.{Name, name_eq}
use Rattle.hep_names.specs.Tables.{either, any_in, constant_by_form}
use Rattle.hep_names.proofs.specification.constant_names.Given as goal

abbrev pub invariant-loop-statement : goal.invariant-loop-statement
invariant-loop-statement l = (x : Name) → either (contains name_eq l.constants.set x) (any_in (constant_by_form x) (drop l.statement-index l.unit)) ≡ any_in (constant_by_form x) l.unit
