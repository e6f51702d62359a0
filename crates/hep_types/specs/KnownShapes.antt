-- The shape of a name, as contracts see it.
use Rattle.std.specs.Prelude.{[], Option, Some, None}
use Rattle.hep_machine.specs.Words.{Bounds}
use Rattle.hep_types.specs.declared.shapes.KnownShape.{KnownShape}
use Rattle.hep_types.specs.declared.shapes.KnownShape.TheVariants.{Scalar, Array, Unknown}

abbrev pub known : KnownShape → Option Bounds
known Scalar = Some []
known (Array s) = Some s.now
known Unknown = None
