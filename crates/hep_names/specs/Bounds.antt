-- Bounds of arrays, dimension by dimension: X3.9-1978, 5.1.1.
use Rattle.std.specs.Prelude.{List, Option}
use Rattle.hep_machine.specs.Words.{Dimension, Statement, Values, bound_of, lower_value, upper_value}
use Rattle.hep_machine.specs.declared.shape.Bound.{Bound}

-- the bounds of one dimension; none where one has no value
abbrev pub bound_by : List Statement → Values → Dimension → Option Bound
bound_by unit values d = bound_of (lower_value unit values d.lower) (upper_value unit values d.upper)
