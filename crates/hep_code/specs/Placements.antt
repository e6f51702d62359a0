-- What was entered of variables and of DOs.
use Rattle.std.specs.Prelude.{ℕ, slice_get}
use Rattle.std.specs.Option.{unwrap_or}
use Rattle.indexmap.specs.IndexMap.{get}
use Rattle.hep_source.specs.declared.name.Name.{Name}
use Rattle.hep_source.specs.Names.{name_eq}
use Rattle.hep_code.specs.declared.variable.Variable.{Variable}
use Rattle.hep_code.specs.declared.variable.Variable.TheVariants.{Absent}
use Rattle.hep_code.specs.declared.placement.Placement.{Placement}

abbrev pub variable_in : Placement → Name → Variable
variable_in places x = unwrap_or (get name_eq places.variables x) Absent

abbrev pub cells_in : Placement → ℕ → ℕ
cells_in places d = unwrap_or (slice_get places.loop_cells.items d) 0
