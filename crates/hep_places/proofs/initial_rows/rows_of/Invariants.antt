use Rattle.std.proofs.Common.{◌≡◌, ℕ, length}
use Rattle.std.specs.Option.{option_or}
use Rattle.indexmap.specs.IndexMap.{get}
use Rattle.hep_machine.specs.Words.{name_eq, data_groups}
use Rattle.hep_names.specs.Statements.{rest_after}
use Rattle.hep_image.specs.Data.{value_in_rows}
use Rattle.hep_places.specs.InitialValues.{value_by_groups}
use Rattle.hep_places.proofs.initial_rows.rows_of.Given as goal

abbrev pub invariant-loop-group : goal.invariant-loop-group
invariant-loop-group l =
    (p : ℕ) → option_or (value_in_rows l.rows.items p) (value_by_groups l.frame.symbols.now (get name_eq l.frame.variables.now) l.frame.arrays.now l.frame.common (rest_after l.groups.items) p)
    ≡ value_by_groups l.frame.symbols.now (get name_eq l.frame.variables.now) l.frame.arrays.now l.frame.common (data_groups l.frame.symbols.now) p

abbrev pub decreases-loop-group : goal.decreases-loop-group
decreases-loop-group l = length l.groups.items
