-- Bounds of arrays, dimension by dimension.
use Rattle.std.specs.Prelude.{Bool, not, ◌&&◌, if◌then◌else◌, List, Option, None}
use Rattle.std.specs.List.{list_any}
use Rattle.hep_machine.specs.Words.{Declarator, Dimension, Statement, value_among, bounds_of, Bounds}
use Rattle.hep_conditions.specs.Words.{Parameters, is_open, has_bounds, are_bounds_open, trees_in_dimension}

abbrev pub is_dimension_open : List Statement → Parameters → Dimension → Bool
is_dimension_open unit ps d = list_any (is_open unit ps) (trees_in_dimension d)

-- the shape that a declarator with dimensions gives its name
abbrev pub shape_given : List Statement → Parameters → Declarator → Option Bounds
shape_given unit ps d =
    if has_bounds unit ps d && not (are_bounds_open unit ps d) then bounds_of unit (value_among ps.known) d.dimensions else None
