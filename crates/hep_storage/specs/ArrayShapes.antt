-- Tables of the shapes of arrays, and the elements that names in DATA denote: X3.9-1978, 5.2 and 9.2.
use Rattle.std.specs.Prelude.{◌≡◌, ℕ, ℤ, Bool, true, false, nat_eq, List, length, Option, Some, None, is_some}
use Rattle.hep_machine.specs.Words.{Target, Name, Statement, Constants, value_among, constant_value, shape_by, Stretch, elements_named, Bounds, elements, element_number}
use Rattle.hep_conditions.specs.Words.{is_target_outside}
use Rattle.hep_storage.specs.InitializedElements.{IsNamed}
use Rattle.hep_storage.specs.declared.initialized_elements.DataElements.TheVariants.{One, All}
use Rattle.hep_storage.specs.declared.array_shapes.ArrayShape.{ArrayShape}
use Rattle.hep_storage.specs.declared.array_shapes.DataName.{DataName}
use Rattle.hep_storage.specs.declared.array_shapes.DataName.TheVariants.{Open, Outside, Elements}

-- The table's entry represents the shape of an array, if it has one.
abbrev pub IsShaped : Option ArrayShape → Option Bounds → Type 0
IsShaped None None = Unit {0}
IsShaped None (Some bs) = ⊥
IsShaped (Some s) None = ⊥
IsShaped (Some s) (Some bs) = (s.bounds.items ≡ bs) × (s.count ≡ elements bs)

-- A table has the shapes of arrays of a unit.
abbrev pub IsTable : List Statement → (Name → Option (Option ArrayShape)) → Type 0
IsTable unit shapes = (x : Name) (s : Option ArrayShape) → shapes x ≡ Some s → IsShaped s (shape_by unit (constant_value unit) x)

-- The name in DATA denotes these elements, by these constants.
abbrev pub Names : List Statement → Constants → Target → DataName → Type 0
Names unit known t Open = (is_target_outside unit known t ≡ false) × (elements_named unit (value_among known) t ≡ None)
Names unit known t Outside = (is_target_outside unit known t ≡ true) × (elements_named unit (value_among known) t ≡ None)
Names unit known t (Elements s) =
    (is_target_outside unit known t ≡ false) × ((e : Stretch) × (elements_named unit (value_among known) t ≡ Some e) × IsNamed unit s e)

-- ---- the elements of an array, by itself and with subscripts

abbrev pub IsWhole : Name → Bounds → Option ℕ → DataName → Type 0
IsWhole x bs count Open = count ≡ None
IsWhole x bs count Outside = ⊥
IsWhole x bs count (Elements (One e)) = ⊥
IsWhole x bs count (Elements (All y n)) = (y ≡ x) × (count ≡ Some n)

abbrev pub IsElementBy : Name → Bounds → List ℤ → DataName → Type 0
IsElementBy x bs ss Open = (nat_eq (length bs) (length ss) ≡ false) × (element_number bs ss ≡ None)
IsElementBy x bs ss Outside = (nat_eq (length bs) (length ss) ≡ true) × (element_number bs ss ≡ None)
IsElementBy x bs ss (Elements (One e)) = (e.name ≡ x) × (e.subscripts.items ≡ ss) × (is_some (element_number bs ss) ≡ true)
IsElementBy x bs ss (Elements (All y n)) = ⊥

abbrev pub IsElement : Name → Bounds → Option (List ℤ) → DataName → Type 0
IsElement x bs None n = n ≡ Open
IsElement x bs (Some ss) n = IsElementBy x bs ss n

abbrev pub IsArray : Name → Option ArrayShape → Bool → Option (List ℤ) → DataName → Type 0
IsArray x None alone ss n = n ≡ Open
IsArray x (Some s) true ss n = IsWhole x s.bounds.items s.count n
IsArray x (Some s) false ss n = IsElement x s.bounds.items ss n
