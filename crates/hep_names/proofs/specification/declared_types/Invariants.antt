use Rattle.std.proofs.Common.{◌≡◌, drop}
use Rattle.std.specs.Option.{option_or}
use Rattle.indexmap.specs.IndexMap.{get}
use Rattle.hep_machine.specs.Words.{Name, name_eq}
use Rattle.hep_machine.specs.Declarations as declarations
use Rattle.hep_names.proofs.specification.declared_types.Given as goal

abbrev pub invariant-loop-statement : goal.invariant-loop-statement
invariant-loop-statement l = (x : Name) → option_or (get name_eq l.types.map x) (declarations.declared_type x (drop l.statement-index l.unit)) ≡ declarations.declared_type x l.unit
