-- A variable that has storage units is that of a name of its unit.
use Rattle.std.proofs.Common.{◌≡◌, ◌≢◌, true, List, Option, Some, None, refl}
use Rattle.hep_code.specs.declared.variable.Variable.TheVariants.{Absent}
use Rattle.hep_image.specs.declared.array.Start.{Start}
use Rattle.hep_image.specs.Places.{start_of, variable_by, variable_of}
use Rattle.hep_machine.specs.Words.{Name, Statement, Units, is_among, names_of}
use Rattle.hep_places.proofs.RightPlaces.{started-named}

pub placed-named : (program : Units) (unit : List Statement) (x : Name) → variable_of program unit x ≢ Absent → is_among x (names_of unit) ≡ true
unfolding variable_of
placed-named program unit x placed = by (start_of program unit x) refl placed where
  by : (o : Option Start) → start_of program unit x ≡ o → variable_by unit x o ≢ Absent → is_among x (names_of unit) ≡ true
  by None e placed = absurd (placed refl)
  by (Some at) e placed = started-named program unit x at e
