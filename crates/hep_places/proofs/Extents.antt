-- The bounds of an array, and which of them are fixed at each call.
use Rattle.std.proofs.Common.{◌≡◌, ℕ, Bool, true, false, List, [], ◌∷◌, Option, Some, None, length, refl, ap, sym, ◌∙◌, arith, true≢false, if◌then◌else◌, nat_eq}
use Rattle.std.proofs.lemmas.Bool.Decides.{nat_tests}
use Rattle.hep_machine.specs.Words.{Dimension, Name, Statement, Constants, adjustable_dimensions, bounds_of, constant_shape, constant_value, if_shape, value_among, dimensions_of, is_array, is_nonempty, Bounds}
use Rattle.hep_names.proofs.CellCounts.{adjustable}
use Rattle.hep_places.specs.StorageStarts.{shape_found}

pub array-shape : (unit : List Statement) (x : Name) → is_array unit x ≡ true → if_shape (bounds_of unit (constant_value unit) (dimensions_of unit x)) ≡ constant_shape unit x
array-shape unit x h = by (is_nonempty (dimensions_of unit x)) h where
  by : (t : Bool) → t ≡ true → if_shape (bounds_of unit (constant_value unit) (dimensions_of unit x)) ≡ (if t then if_shape (bounds_of unit (constant_value unit) (dimensions_of unit x)) else Some [])
  by true e = refl
  by false e = absurd (true≢false (sym e))

pub some-dimension : (ds : List Dimension) → is_nonempty ds ≡ true → nat_eq (length ds) 0 ≡ false
some-dimension [] h = absurd (true≢false (sym h))
some-dimension (d ∷ ds) h = grind (arith, nat_tests)

-- the shape of an array by the bounds that its constants give it
module _ (unit : List Statement) (x : Name) (known : Constants) (ds : List Dimension) (array : is_array unit x ≡ true) (k : value_among known ≡ constant_value unit) (d : ds ≡ dimensions_of unit x) where
  abbrev found-by : ℕ → Option (Option Bounds)
  found-by n = if nat_eq n 0 then Some (constant_shape unit x) else None

  pub constant-found : (o : Option Bounds) (bs : Bounds) → o ≡ bounds_of unit (value_among known) ds → o ≡ Some bs → Some (if_shape (Some bs)) ≡ shape_found unit x
  constant-found o bs b i =
      let same : Some bs ≡ bounds_of unit (value_among known) ds = sym i ∙ b in
      let none : 0 ≡ adjustable_dimensions unit x = adjustable unit x known ds (Some bs) 0 k same d refl in
      let shape : if_shape (Some bs) ≡ constant_shape unit x
      = ap if_shape (same ∙ (ap (λ values. bounds_of unit values ds) k ∙ ap (bounds_of unit (constant_value unit)) d)) ∙ array-shape unit x array in
      ap (λ s. Some s) shape ∙ ap found-by none

  pub adjustable-found : (o : Option Bounds) → o ≡ bounds_of unit (value_among known) ds → o ≡ None → (None ≡ shape_found unit x) × (length (dimensions_of unit x) ≡ adjustable_dimensions unit x)
  adjustable-found o b i =
      let all : length ds ≡ adjustable_dimensions unit x = adjustable unit x known ds None (length ds) k (sym i ∙ b) d refl in
      let some : nat_eq (length ds) 0 ≡ false = some-dimension ds (ap is_nonempty d ∙ array) in
      (sym (ap (λ t. if t then Some (constant_shape unit x) else None) some) ∙ ap found-by all, ap length (sym d) ∙ all)
