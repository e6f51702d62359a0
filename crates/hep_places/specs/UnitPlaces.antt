-- The places of the variables of a unit, its arrays and its DOs: docs/MACHINE.md, "Variables and frames" and
-- "Layout".
use Rattle.std.specs.Prelude.{◌≡◌, ℕ, List, map}
use Rattle.hep_machine.specs.Words.{Name, Statement, Units, frame_cells}
use Rattle.hep_image.specs.Dummies.{dummy_arguments}
use Rattle.hep_image.specs.Owners.{AreInOrder, frame_variables}
use Rattle.hep_image.specs.Places.{array_of, arrays_of, loop_cells, variable_of}
use Rattle.hep_image.specs.Private.{private_cells}
use Rattle.hep_places.specs.declared.unit.UnitPlaces.{UnitPlaces}
use Rattle.hep_code.specs.Placements.{cells_in, variable_in}

-- the places that are kept of a unit of a program are the right ones
pub record ArePlaces (program : Units) (unit : List Statement) (p : UnitPlaces) : Type 0 where
  -- the places of all names, also of those that the unit doesn't have
  pub variables : (x : Name) → variable_in p.places x ≡ variable_of program unit x
  pub loops : (d : ℕ) → cells_in p.places d ≡ loop_cells unit d
  pub arrays : p.arrays.items ≡ map (array_of program unit) (arrays_of unit)
  pub cells : p.cells ≡ frame_cells unit
  pub private_are : p.private.items ≡ private_cells unit
  -- its dummy arguments, as a call of the unit needs them
  pub dummies : p.dummies.items ≡ dummy_arguments program unit
  pub variables_are : p.frame_variables.items ≡ frame_variables unit
  pub in_order : AreInOrder p.frame_variables.items
