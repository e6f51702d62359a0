use Rattle.std.proofs.Common.{◌≡◌, drop}
use Rattle.std.specs.Option.{option_or}
use Rattle.indexmap.specs.IndexMap.{get}
use Rattle.hep_machine.specs.Words.{Name, declarator_among, name_eq}
use Rattle.hep_names.specs.Statements.{rest_after}
use Rattle.hep_names.specs.Tables.{seen}
use Rattle.hep_names.proofs.specification.note_arrays.Given as goal

abbrev pub invariant-loop-declarator : goal.invariant-loop-declarator
invariant-loop-declarator l = (x : Name) → option_or (seen (get name_eq l.arrays x)) (declarator_among x (rest_after (drop l.declarator-index l.declarators))) ≡ option_or (seen (get name_eq l.initial.arrays x)) (declarator_among x (rest_after l.declarators))
