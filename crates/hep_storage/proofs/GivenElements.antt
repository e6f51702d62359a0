-- One stretch of elements more that DATA gives values.
use Rattle.std.proofs.Common.{◌≡◌, ◌≤◌, ℕ, ◌*◌, ℤ, Bool, true, false, ◌&&◌, nat_eq, if◌then◌else◌, List, [], ◌∷◌, Option, Some, None, refl, ap, sym, ◌∙◌, arith, cond}
use Rattle.std.specs.Ordering.{int_eq}
use Rattle.std.specs.Cmp.Lexicographic.{pointwise}
use Rattle.std.proofs.lemmas.Bool.Decides.{nat_tests, Decides-int_eq}
use Rattle.std.proofs.lemmas.Bool.{and_parts}
use Rattle.std.proofs.lemmas.Option.{same_Some}
use Rattle.hep_machine.specs.Words.{same_name, Name, Statement, constant_shape, constant_value, bounds_of, if_shape, Stretch, dimensions_of, is_nonempty, Bounds, elements, element_number, extent, is_between, are_dimensions}
use Rattle.hep_shape.proofs.Extents.{between_extent}
use Rattle.hep_conditions.specs.Words.{share_element, meet}
use Rattle.hep_names.specs.Tables.{either}
use Rattle.hep_source.proofs.NameTests.{name_eq-is, equal_names, same_name-turned}
use Rattle.hep_storage.specs.InitializedElements.{element_eq, IsNamed, Describes}
use Rattle.hep_storage.specs.declared.initialized_elements.Element.{Element}
use Rattle.hep_storage.specs.declared.initialized_elements.DataElements.TheVariants.{One, All}
use Rattle.hep_names.proofs.Elements.{number-within, same-element, product-parts, some-equal}
use Rattle.hep_source.proofs.Tests.{and-true}

-- ---- shapes

dimensions-of : (unit : List Statement) (x : Name) (bs : Bounds) → constant_shape unit x ≡ Some bs → are_dimensions bs ≡ true
dimensions-of unit x bs h = by (is_nonempty (dimensions_of unit x)) (bounds_of unit (constant_value unit) (dimensions_of unit x)) h
  where
    by : (b : Bool) (o : Option Bounds) → (if b then if_shape o else Some []) ≡ Some bs → are_dimensions bs ≡ true
    by true None g = absurd cc
    by true (Some cs) g = grind arith
    by false o g = grind arith

some-product : (m n c : ℕ) → 1 ≤ m → 1 ≤ n → m * n ≡ c → 1 ≤ c
some-product m n c h k e = grind arith

some-elements : (bs : Bounds) (c : ℕ) → are_dimensions bs ≡ true → elements bs ≡ Some c → 1 ≤ c
some-elements [] c d h = let e = some-equal 1 c h in omega (arith, e)
some-elements (b ∷ bs) c d h =
    let dimensions = and_parts (is_between b.lower b.upper bs) (are_dimensions bs) d in
    let parts = product-parts (extent b) (elements bs) c h in
    let first : 1 ≤ parts.0 = rw parts.2 at (between_extent b bs dimensions.0) in
    some-product parts.0 parts.1 c first (some-elements bs parts.1 dimensions.1 parts.3) parts.4

-- ---- subscripts are compared one by one

ints-equal : (xs ys : List ℤ) → pointwise int_eq xs ys ≡ true → xs ≡ ys
ints-equal [] [] h = refl
ints-equal [] (y ∷ ys) h = absurd cc
ints-equal (x ∷ xs) [] h = absurd cc
ints-equal (x ∷ xs) (y ∷ ys) h =
    let p = and_parts (int_eq x y) (pointwise int_eq xs ys) h in
    let e = (Decides-int_eq x y).0 p.0 in
    ap (λ z. z ∷ xs) e ∙ ap (λ zs. y ∷ zs) (ints-equal xs ys p.1)

ints-self : (xs : List ℤ) → pointwise int_eq xs xs ≡ true
ints-self [] = refl
ints-self (x ∷ xs) = rw ((Decides-int_eq x x).1 refl, ints-self xs) refl

-- ---- elements in a table

ints-turned : (xs ys : List ℤ) → pointwise int_eq xs ys ≡ pointwise int_eq ys xs
ints-turned xs ys = grind (arith, ints-equal xs ys, ints-equal ys xs, ints-self xs)

element-turned : (e f : Element) → element_eq e f ≡ element_eq f e
element-turned e f =
    let names = name_eq-is e.name f.name ∙ (same_name-turned e.name f.name ∙ sym (name_eq-is f.name e.name)) in
    λ i. names i && ints-turned e.subscripts.items f.subscripts.items i

pub element-added : (f e : Element) (old : Bool) → cond (element_eq f e) true old ≡ either old (element_eq e f)
element-added f e old = rw (element-turned f e) (grind arith)

-- ---- whether two stretches share an element

meet-one : (m n : ℕ) → meet m 1 n 1 ≡ nat_eq m n
meet-one m n = grind (arith, nat_tests)

-- a test that matters for one name alone
for-name : (x y : Name) (b c : Bool) → (x ≡ y → b ≡ c) → (same_name x y && b) ≡ (same_name x y && c)
for-name x y b c h = grind (arith, equal_names x y, h)

share-turned : (s t : Stretch) → share_element s t ≡ share_element t s
share-turned s t = rw (same_name-turned s.name t.name) (grind (arith, nat_tests))

module _ (unit : List Statement) where
  one-one : (e f : Element) (s t : Stretch) → IsNamed unit (One e) s → IsNamed unit (One f) t → share_element s t ≡ element_eq e f
  one-one e f s t h k =
      rw (h.0, h.1, k.0, k.1, meet-one s.first t.first, name_eq-is e.name f.name)
      (for-name e.name f.name (nat_eq s.first t.first) (pointwise int_eq e.subscripts.items f.subscripts.items) numbers)
    where
      numbers : e.name ≡ f.name → nat_eq s.first t.first ≡ pointwise int_eq e.subscripts.items f.subscripts.items
      numbers same =
          let one = h.2 in
          let other = k.2 in
          let shapes : one.0 ≡ other.0 = same_Some one.0 other.0 (sym one.1 ∙ (ap (constant_shape unit) same ∙ other.1)) in
          let there : element_number one.0 f.subscripts.items ≡ Some t.first = ap (λ bs. element_number bs f.subscripts.items) shapes ∙ other.2 in
          let equal = same-element one.0 e.subscripts.items f.subscripts.items s.first (dimensions-of unit e.name one.0 one.1) one.2 in
          let first : e.subscripts.items ≡ f.subscripts.items → s.first ≡ t.first = λ q. some-equal s.first t.first (sym one.2 ∙ (ap (element_number one.0) q ∙ there)) in
          grind (arith, nat_tests, there, equal, first, ints-equal e.subscripts.items f.subscripts.items, ints-self e.subscripts.items)

  one-all : (e : Element) (x : Name) (c : ℕ) (s t : Stretch) → IsNamed unit (One e) s → IsNamed unit (All x c) t → share_element s t ≡ same_name e.name x
  one-all e x c s t h k =
      rw (h.0, h.1, k.0, k.1, k.2) (for-name e.name x (meet s.first 1 1 c) true within ∙ and-true (same_name e.name x))
    where
      within : e.name ≡ x → meet s.first 1 1 c ≡ true
      within same =
          let shapes = same_Some h.2.0 k.3.0 (sym h.2.1 ∙ (ap (constant_shape unit) same ∙ k.3.1)) in
          let w = number-within h.2.0 e.subscripts.items c s.first (ap elements shapes ∙ k.3.2) h.2.2 in
          grind (arith, nat_tests, w.0, w.1)

  all-one : (x : Name) (c : ℕ) (f : Element) (s t : Stretch) → IsNamed unit (All x c) s → IsNamed unit (One f) t → share_element s t ≡ same_name x f.name
  all-one x c f s t h k = share-turned s t ∙ (one-all f x c t s k h ∙ same_name-turned f.name x)

  all-all : (x : Name) (c : ℕ) (y : Name) (d : ℕ) (s t : Stretch) → IsNamed unit (All x c) s → IsNamed unit (All y d) t → share_element s t ≡ same_name x y
  all-all x c y d s t h k =
      rw (h.0, h.1, h.2, k.0, k.1, k.2) (for-name x y (meet 1 c 1 d) true within ∙ and-true (same_name x y))
    where
      within : x ≡ y → meet 1 c 1 d ≡ true
      within same =
          let shapes = same_Some h.3.0 k.3.0 (sym h.3.1 ∙ (ap (constant_shape unit) same ∙ k.3.1)) in
          let sizes : c ≡ d = some-equal c d (sym h.3.2 ∙ (ap elements shapes ∙ k.3.2)) in
          let some = some-elements h.3.0 c (dimensions-of unit x h.3.0 h.3.1) h.3.2 in
          grind (arith, nat_tests, sizes, some)

-- ---- tables

module _ {unit : List Statement} {given : List Stretch} {names arrays : Name → Bool} {elements_given : Element → Bool} (described : Describes unit given names arrays elements_given)
    {names_after arrays_after : Name → Bool} {elements_after : Element → Bool} where
  pub with-one : (f : Element) (t : Stretch) → IsNamed unit (One f) t → ((x : Name) → arrays_after x ≡ arrays x)
      → ((x : Name) → names_after x ≡ either (names x) (same_name x f.name)) → ((e : Element) → elements_after e ≡ either (elements_given e) (element_eq e f))
      → Describes unit (t ∷ given) names_after arrays_after elements_after
  with-one f t named same new_names new_elements = record {
    alone = λ e s h. rw (one-one unit e f s t h named, described.alone e s h, new_elements e, same e.name) (grind arith);
    together = λ x n s h. rw (all-one unit x n f s t h named, described.together x n s h, new_names x) (grind arith);
  }

  pub with-all : (y : Name) (c : ℕ) (t : Stretch) → IsNamed unit (All y c) t → ((x : Name) → arrays_after x ≡ either (arrays x) (same_name x y))
      → ((x : Name) → names_after x ≡ either (names x) (same_name x y)) → ((e : Element) → elements_after e ≡ elements_given e)
      → Describes unit (t ∷ given) names_after arrays_after elements_after
  with-all y c t named new_arrays new_names same = record {
    alone = λ e s h. rw (one-all unit e y c s t h named, described.alone e s h, new_arrays e.name, same e) (grind arith);
    together = λ x n s h. rw (all-all unit x n y c s t h named, described.together x n s h, new_names x) (grind arith);
  }
