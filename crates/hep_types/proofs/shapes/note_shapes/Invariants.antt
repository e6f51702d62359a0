use Rattle.std.proofs.Common.{◌≡◌, drop}
use Rattle.std.specs.Option.{option_or}
use Rattle.indexmap.specs.IndexMap.{get}
use Rattle.hep_machine.specs.Words.{Name, name_eq}
use Rattle.hep_names.specs.Statements.{rest_after}
use Rattle.hep_types.specs.Shapes.{shape_among}
use Rattle.hep_types.proofs.shapes.note_shapes.Given as goal

abbrev pub invariant-loop-declarator : goal.invariant-loop-declarator
invariant-loop-declarator l = (x : Name) → option_or (get name_eq l.shapes x) (shape_among l.scope.symbols.now l.scope.parameters.now x (rest_after (drop l.declarator-index l.declarators))) ≡ option_or (get name_eq l.initial.shapes x) (shape_among l.scope.symbols.now l.scope.parameters.now x (rest_after l.declarators))
