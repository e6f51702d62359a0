use Rattle.std.proofs.Common.{◌≡◌, drop}
use Rattle.std.specs.Option.{option_or}
use Rattle.indexmap.specs.IndexMap.{get}
use Rattle.hep_machine.specs.Words.{Name, name_eq}
use Rattle.hep_names.specs.Tables as tables
use Rattle.hep_names.proofs.specification.note_types.Given as goal

abbrev pub invariant-loop-declarator : goal.invariant-loop-declarator
invariant-loop-declarator l = (x : Name) → option_or (get name_eq l.types x) (tables.by_declarators l.value_type (drop l.declarator-index l.declarators) x) ≡ option_or (get name_eq l.initial.types x) (tables.by_declarators l.value_type l.declarators x)
