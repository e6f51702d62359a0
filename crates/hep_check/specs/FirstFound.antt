-- The first of the violations of several conditions: docs/LANGUAGE.md, 10.
use Rattle.std.specs.Prelude.{List, [], ◌∷◌, Option, None}
use Rattle.hep_conditions.specs.declared.violation.Violation.{Violation}
use Rattle.hep_conditions.specs.Words.{first_of_two}

abbrev pub first_found : List (Option Violation) → Option Violation
first_found [] = None
first_found (v ∷ vs) = first_of_two v (first_found vs)
