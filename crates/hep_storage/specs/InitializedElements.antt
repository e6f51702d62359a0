-- Tables of the elements that DATA gives values: X3.9-1978, 9.2.
use Rattle.std.specs.Prelude.{◌≡◌, ℕ, Bool, ◌&&◌, List, [], ◌∷◌, Some}
use Rattle.std.specs.List.{list_any}
use Rattle.std.specs.Cmp.Lexicographic.{pointwise}
use Rattle.std.specs.Ordering.{int_eq}
use Rattle.indexmap.specs.IndexSet.{contains}
use Rattle.hep_machine.specs.Words.{Name, Statement, constant_shape, Stretch, Bounds, elements, element_number, name_eq}
use Rattle.hep_conditions.specs.Words.{share_element, is_given_twice}
use Rattle.hep_names.specs.Tables.{either}
use Rattle.hep_storage.specs.declared.initialized_elements.Element.{Element}
use Rattle.hep_storage.specs.declared.initialized_elements.InitializedElements.{InitializedElements}
use Rattle.hep_storage.specs.declared.initialized_elements.DataElements.{DataElements as Named}
use Rattle.hep_storage.specs.declared.initialized_elements.DataElements.TheVariants.{One, All}

-- the equality of elements in a table
abbrev pub element_eq : Element → Element → Bool
element_eq e f = name_eq e.name f.name && pointwise int_eq e.subscripts.items f.subscripts.items

-- The elements that a name in DATA denotes are this range.
abbrev pub IsNamed : List Statement → Named → Stretch → Type 0
IsNamed unit (One e) s =
    (s.name ≡ e.name) × (s.count ≡ 1) × ((bs : Bounds) × (constant_shape unit e.name ≡ Some bs) × (element_number bs e.subscripts.items ≡ Some s.first))
IsNamed unit (All x n) s =
    (s.name ≡ x) × (s.count ≡ n) × (s.first ≡ 1) × ((bs : Bounds) × (constant_shape unit x ≡ Some bs) × (elements bs ≡ Some n))

-- The tables represent the elements that were given values: the names of which an element was given a value, the names of which all
-- elements were given values at once, and single elements.
pub record Describes (unit : List Statement) (given : List Stretch) (names arrays : Name → Bool) (elements_given : Element → Bool) : Type 0 where
  pub alone : (e : Element) (s : Stretch) → IsNamed unit (One e) s → list_any (share_element s) given ≡ either (elements_given e) (arrays e.name)
  pub together : (x : Name) (n : ℕ) (s : Stretch) → IsNamed unit (All x n) s → list_any (share_element s) given ≡ names x

abbrev pub IsGiven : List Statement → List Stretch → InitializedElements → Type 0
IsGiven unit given tables = Describes unit given (contains name_eq tables.names) (contains name_eq tables.arrays) (contains element_eq tables.elements)

-- the ranges that were given values, the last one first
abbrev pub given_after : List Stretch → List Stretch → List Stretch
given_after given [] = given
given_after given (e ∷ es) = given_after (e ∷ given) es

-- These elements are given values in turn: `was` says whether one had a value before, and `new` are the tables after it.
abbrev pub Gives : List Statement → InitializedElements → InitializedElements → List Stretch → Bool → Type 0
Gives unit old new es was = (given : List Stretch) → IsGiven unit given old → (was ≡ is_given_twice given es) × IsGiven unit (given_after given es) new
