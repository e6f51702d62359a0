-- Variables and elements are found where the source machine has them.
use Rattle.std.proofs.Common.{◌≡◌, ℕ, ◌-◌, ◌≤◌, ◌<◌, Bool, true, false, List, [], ◌∷◌, Option, Some, None, Ok, Err, refl, ap, ◌∙◌, arith, sym, subst, ℤ, if◌then◌else◌, nat_le, map}
use Rattle.std.proofs.lemmas.Bool.Decides.{nat_tests}
use Rattle.hep_machine.specs.Words.{Value, Units, unit_at, Layout, Frame, StorageSequence, element_in, element_of, location_in, Scope, location_of_name, storage_of, Bounds, before_element, counted_element, element_number, is_most, most_elements, elements, Location, State, Name, Statement, integers_of, is_array, unit_of, scope_of}
use Rattle.hep_machine.specs.declared.slot.Slot.{Slot}
use Rattle.hep_machine.specs.declared.event.Kind.TheVariants.{Range}
use Rattle.hep_code.specs.Words.{IsSame, is_asynchronous}
use Rattle.hep_layout.specs.Words.{address, RunsFrom}
use Rattle.hep_image.specs.Addressing.{address_of_scalar, element_within, address_in_array, address_of, base_at, bounds_at, rest_at}
use Rattle.hep_layout.proofs.Storages.{from-one}
use Rattle.std.specs.Option.{unwrap_or}
use Rattle.hep_code.specs.declared.variable.Variable.{Variable}
use Rattle.hep_image.specs.declared.array.Array.{Array}
use Rattle.hep_image.specs.declared.array.Start.{Start}
use Rattle.hep_image.specs.declared.array.Start.TheVariants.{Local, Common, Dummy}
use Rattle.hep_image.specs.Places.{array_of, arrays_of, extents_of, scalar, start_of, variable_of}
use Rattle.hep_image.proofs.NamedNumbers.{array-listed, at-index, by-kind}

-- ---- elements

module _ (program : Units) (s : State) (layout : Layout) (start : Location) (rest base : ℕ) (cells : ℕ → Slot) (first : ℕ) (runs : RunsFrom program s layout start rest base) where
  abbrev sequence : Bounds → StorageSequence
  sequence shape = record { start = start; rest = rest; shape = shape }

  within : (shape : Bounds) (n : ℕ) → 1 ≤ n → rest ≤ most_elements → (fits few : Bool) → nat_le n rest ≡ fits → nat_le n most_elements ≡ few
      → IsSame (address program s layout) (element_within cells first base rest (if few then Some n else None)) (location_in (sequence shape) (if fits then Ok n else Err Range))
  within shape n one most true true f g = rw f (runs (n - 1) (let le : n ≤ rest = grind (arith, nat_tests) in omega (arith, one, le)))
  within shape n one most true false f g =
      let le : n ≤ rest = grind (arith, nat_tests) in
      let more : most_elements < n = grind (arith, nat_tests) in
      absurd (omega (arith, le, more, most))
  within shape n one most false true f g = rw f refl
  within shape n one most false false f g = refl

  -- by its number: both are none, or both the same
  pub same-element : (shape : Bounds) (ss : List ℤ) → rest ≤ most_elements
      → IsSame (address program s layout) (element_within cells first base rest (counted_element shape ss)) (location_in (sequence shape) (element_in (sequence shape) (element_number shape ss)))
  same-element shape ss most = by_number (element_number shape ss) (from-one (before_element 1 shape ss)) where
    by_number : (o : Option ℕ) → ((n : ℕ) → o ≡ Some n → 1 ≤ n)
        → IsSame (address program s layout) (element_within cells first base rest (if is_most o then o else None)) (location_in (sequence shape) (element_in (sequence shape) o))
    by_number None one = refl
    by_number (Some n) one = within shape n (one n refl) most (nat_le n rest) (nat_le n most_elements) refl refl

  -- a scalar is its one element
  pub same-scalar : (vs : List Value) → rest ≡ 1 → IsSame (address program s layout) (address_of_scalar cells first base vs) (location_in (sequence []) (element_of (sequence []) vs))
  same-scalar [] one =
      let fits : nat_le 1 rest ≡ true = rw one refl in
      rw fits (runs 0 (omega (arith, one)) ∙ ap (λ n. Some n) (omega arith))
  same-scalar (v ∷ vs) one = refl

-- ---- variables

module _ (program : Units) (s : State) (layout : Layout) (cells : ℕ → Slot) (a : ℕ) (f : Frame) where
  abbrev pub unit : List Statement
  unit = unit_at program (unit_of s a)

  abbrev pub scope : Scope
  scope = scope_of program s a

  abbrev pub arrays : List Array
  arrays = map (array_of program unit) (arrays_of unit)

  -- what the cells say of where a variable begins and of its shape is what the source machine has
  pub record IsFound (x : Name) (at : Start) : Type 0 where
    pub starts : start_of program unit x ≡ Some at
    pub runs : RunsFrom program s layout (storage_of scope x).start (storage_of scope x).rest (base_at cells f.first at)
    pub few : (storage_of scope x).rest ≤ most_elements
    pub scalar : is_array unit x ≡ false → ((storage_of scope x).shape ≡ []) × ((storage_of scope x).rest ≡ 1)
    pub shaped : is_array unit x ≡ true → bounds_at cells f.first (extents_of unit x) ≡ (storage_of scope x).shape
    pub counted : is_array unit x ≡ true → unwrap_or (elements (bounds_at cells f.first (extents_of unit x))) (rest_at cells f.first at) ≡ (storage_of scope x).rest

  abbrev pub IsAddressedBy : Name → List Value → Variable → Type 0
  IsAddressedBy x vs v = (is_asynchronous v ≡ x.asynchronous) × IsSame (address program s layout) (address_of cells f.first arrays v vs) (location_of_name scope x vs)

  scalar-asynchronous : (b : Bool) (at : Start) → is_asynchronous (scalar b at) ≡ b
  scalar-asynchronous b (Local c) = refl
  scalar-asynchronous b (Common c) = refl
  scalar-asynchronous b (Dummy c) = refl

  scalar-base : (b : Bool) (at : Start) (vs : List Value) → address_of cells f.first arrays (scalar b at) vs ≡ address_of_scalar cells f.first (base_at cells f.first at) vs
  scalar-base b (Local c) vs = refl
  scalar-base b (Common c) vs = refl
  scalar-base b (Dummy c) vs = refl

  scalar-found : (x : Name) (at : Start) (vs : List Value) → IsFound x at → is_array unit x ≡ false → IsSame (address program s layout) (address_of cells f.first arrays (scalar x.asynchronous at) vs) (location_of_name scope x vs)
  scalar-found x at vs found is =
      let e = storage_of scope x in
      let one = found.scalar is in
      subst (λ r. IsSame (address program s layout) r (location_of_name scope x vs)) (sym (scalar-base x.asynchronous at vs)) (
      subst (λ (bs : Bounds). IsSame (address program s layout) (address_of_scalar cells f.first (base_at cells f.first at) vs) (location_in (record { start = e.start; rest = e.rest; shape = bs }) (element_of (record { start = e.start; rest = e.rest; shape = bs }) vs))) (sym one.0) (
      same-scalar program s layout e.start e.rest (base_at cells f.first at) cells f.first found.runs vs one.1))

  array-found : (x : Name) (at : Start) (vs : List Value) → IsFound x at → is_array unit x ≡ true → IsSame (address program s layout) (address_in_array cells f.first (Some (array_of program unit x)) vs) (location_of_name scope x vs)
  array-found x at vs found is =
      let e = storage_of scope x in
      let at_is : unwrap_or (start_of program unit x) (Local 0) ≡ at = ap (λ o. unwrap_or o (Local 0)) found.starts in
      subst (λ (z : Start). IsSame (address program s layout) (element_within cells f.first (base_at cells f.first z) (unwrap_or (elements (bounds_at cells f.first (extents_of unit x))) (rest_at cells f.first z)) (counted_element (bounds_at cells f.first (extents_of unit x)) (integers_of vs))) (location_of_name scope x vs)) (sym at_is) (
      subst (λ n. IsSame (address program s layout) (element_within cells f.first (base_at cells f.first at) n (counted_element (bounds_at cells f.first (extents_of unit x)) (integers_of vs))) (location_of_name scope x vs)) (sym (found.counted is)) (
      subst (λ (bs : Bounds). IsSame (address program s layout) (element_within cells f.first (base_at cells f.first at) e.rest (counted_element bs (integers_of vs))) (location_of_name scope x vs)) (sym (found.shaped is)) (
      same-element program s layout e.start e.rest (base_at cells f.first at) cells f.first found.runs e.shape (integers_of vs) found.few)))

  pub addressed : (x : Name) (at : Start) (vs : List Value) → IsFound x at → IsAddressedBy x vs (variable_of program unit x)
  addressed x at vs found =
      by-kind program unit x at (IsAddressedBy x vs) found.starts
      (λ is. (refl, subst (λ o. IsSame (address program s layout) (address_in_array cells f.first o vs) (location_of_name scope x vs)) (sym (at-index x (array_of program unit) (arrays_of unit) (array-listed x unit is))) (array-found x at vs found is)))
      (λ is. (scalar-asynchronous x.asynchronous at, scalar-found x at vs found is))
