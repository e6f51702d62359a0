-- Shapes of names, declarator by declarator.
use Rattle.std.specs.Prelude.{List, [], Option, Some, None}
use Rattle.std.specs.Option.{option_map}
use Rattle.hep_machine.specs.Words.{Declarator, Name, Statement, declarator_among, Bounds}
use Rattle.hep_conditions.specs.Words.{Parameters}
use Rattle.hep_names.specs.Tables.{by_declarator}
use Rattle.hep_types.specs.Bounds.{shape_given}

-- the entry of a table, or else this shape
abbrev pub shape_or : Option (Option Bounds) → Option Bounds → Option Bounds
shape_or None later = later
shape_or (Some o) later = o

-- the entry of a table, or else the shape of a scalar, which has no dimension
abbrev pub shape_by : Option (Option Bounds) → Option Bounds
shape_by o = shape_or o (Some [])

-- the shape that a declarator gives a name; none where it gives this name no dimensions
abbrev pub shape_by_declarator : List Statement → Parameters → Declarator → Name → Option (Option Bounds)
shape_by_declarator unit ps d x = option_map (shape_given unit ps) (by_declarator d x)

-- the shape that the first of these declarators with dimensions of a name gives the name
abbrev pub shape_among : List Statement → Parameters → Name → List Declarator → Option (Option Bounds)
shape_among unit ps x ds = option_map (shape_given unit ps) (declarator_among x ds)
