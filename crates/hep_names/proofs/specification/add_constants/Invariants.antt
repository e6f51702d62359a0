use Rattle.std.proofs.Common.{◌≡◌, drop}
use Rattle.indexmap.specs.IndexSet.{contains}
use Rattle.hep_machine.specs.Words.{Name, is_among, name_eq}
use Rattle.hep_machine.specs.Declarations as declarations
use Rattle.hep_names.specs.Tables.{either}
use Rattle.hep_names.proofs.specification.add_constants.Given as goal

abbrev pub invariant-loop-constant : goal.invariant-loop-constant
invariant-loop-constant l = (x : Name) → either (contains name_eq l.constants x) (is_among x (declarations.names_of_constants (drop l.constant-index l.given))) ≡ either (contains name_eq l.initial.constants x) (is_among x (declarations.names_of_constants l.given))
