use Rattle.std.proofs.Common.{◌≡◌, drop}
use Rattle.std.specs.Option.{option_or}
use Rattle.indexmap.specs.IndexMap.{get}
use Rattle.hep_machine.specs.Words.{Name, name_eq}
use Rattle.hep_names.specs.Tables.{seen, first_in, declarator_by_form}
use Rattle.hep_names.proofs.specification.arrays.Given as goal

abbrev pub invariant-loop-statement : goal.invariant-loop-statement
invariant-loop-statement l = (x : Name) → option_or (seen (get name_eq l.arrays.map x)) (first_in (declarator_by_form x) (drop l.statement-index l.unit)) ≡ first_in (declarator_by_form x) l.unit
