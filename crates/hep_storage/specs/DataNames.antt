-- The elements that a list of names in DATA denotes: X3.9-1978, 9.2.
use Rattle.std.specs.Prelude.{◌&&◌, is_some, Bool, true, false, List, [], ◌∷◌, Option, Some, None}
use Rattle.hep_machine.specs.Words.{Target, Statement, Constants}
use Rattle.hep_storage.specs.DataGroups.{position_of_name}
use Rattle.hep_storage.specs.ArrayShapes.{Names}
use Rattle.hep_storage.specs.RunItems.{repeat_before}
use Rattle.hep_storage.specs.declared.initialized_elements.DataElements.TheVariants.{One, All}
use Rattle.hep_storage.specs.declared.runs.Position.{Position}
use Rattle.hep_storage.specs.declared.runs.PositionRun.{PositionRun}
use Rattle.hep_storage.specs.declared.array_shapes.DataName.{DataName}
use Rattle.hep_storage.specs.declared.array_shapes.DataName.TheVariants.{Open, Outside, Elements}

-- These are the elements of the names, one after the other.
abbrev pub NamedAll : List Statement → Constants → List Target → List DataName → Type 0
NamedAll unit known [] [] = Unit {0}
NamedAll unit known [] (n ∷ ns) = ⊥
NamedAll unit known (t ∷ ts) [] = ⊥
NamedAll unit known (t ∷ ts) (n ∷ ns) = Names unit known t n × NamedAll unit known ts ns

abbrev pub is_outside_named : DataName → Bool
is_outside_named Outside = true
is_outside_named _ = false

-- the run of the elements of a name: its type, repeated for each element
abbrev pub run_named : List Statement → DataName → Option PositionRun
run_named unit Open = None
run_named unit Outside = None
run_named unit (Elements (One e)) = Some (record { position = position_of_name unit e.name; count = 1 })
run_named unit (Elements (All x n)) = Some (record { position = position_of_name unit x; count = n })

abbrev pub places_before : Option PositionRun → List Position → List Position
places_before None ps = []
places_before (Some r) ps = repeat_before r.count r.position ps

-- the positions of runs up to the first that isn't known
abbrev pub places_of : List (Option PositionRun) → List Position
places_of [] = []
places_of (r ∷ rs) = places_before r (places_of rs)

abbrev pub are_known : List (Option PositionRun) → Bool
are_known [] = true
are_known (r ∷ rs) = is_some r && are_known rs
