-- Shapes have an element at least; and bounds that are constant are the same where more names have values.
use Rattle.std.proofs.Common.{◌≡◌, ◌≢◌, ◌≤◌, ℕ, suc, ℤ, Bool, true, false, List, [], ◌∷◌, length, Option, Some, None, refl, sym, ap, ◌∙◌, arith, ◌&&◌, IfSome, if◌then◌else◌, is_some, nat_le}
use Rattle.std.specs.List.{list_all}
use Rattle.std.specs.Option.{option_map, unwrap_or}
use Rattle.std.proofs.Math.Nat.{mul-le-mul}
use Rattle.std.proofs.lemmas.Bool.{and_parts}
use Rattle.std.proofs.lemmas.Option.{same_Some, none-some}
use Rattle.hep_machine.specs.Words.{Dimension, UpperBound, Expression, Open, Name, Operator, Statement, Value, Tree, Trees, constant, occurrence, with_list, parenthesized, signed, negated, binary, no_trees, trees, combined_value, integer_of, negated_value, signed_value, Values, adjustable_dimensions, both}
use Rattle.hep_machine.specs.Words.{bound_before, bound_of, bounds_of, by_meaning, constant_value, is_constant_dimension, is_constant_lower, is_constant_upper, lower_value, upper_value, value_of, values_of, with_one, with_two, dimensions_of, is_array, is_nonempty, Meaning, element, listed_meaning, Bounds}
use Rattle.hep_machine.specs.Words.{are_dimensions, elements, extent, is_between, is_most, is_shape, product}
use Rattle.hep_machine.specs.declared.shape.Bound.{Bound}
use Rattle.hep_shape.proofs.Extents.{between_extent}

-- ---- how many elements a shape has

product-some : (o p : Option ℕ) → IfSome o (λ n. 1 ≤ n) → IfSome p (λ n. 1 ≤ n) → IfSome (product o p) (λ n. 1 ≤ n)
product-some None p h k = tt
product-some (Some m) None h k = tt
product-some (Some m) (Some n) h k = omega (arith, mul-le-mul h k)

elements-some : (bs : Bounds) → are_dimensions bs ≡ true → IfSome (elements bs) (λ n. 1 ≤ n)
elements-some [] h = omega arith
elements-some (b ∷ bs) h =
    let parts = and_parts (is_between b.lower b.upper bs) (are_dimensions bs) h in
    product-some (extent b) (elements bs) (between_extent b bs parts.0) (elements-some bs parts.1)

-- what makes bounds a shape, apart from that there are some
pub shape-parts : (bs : Bounds) → is_shape bs ≡ true → (nat_le (length bs) 7 ≡ true) × (are_dimensions bs ≡ true) × (is_most (elements bs) ≡ true)
shape-parts bs h =
    let few = and_parts (nat_le (length bs) 7) (are_dimensions bs && is_most (elements bs)) (and_parts (nat_le 1 (length bs)) _ h).1 in
    let sized = and_parts (are_dimensions bs) (is_most (elements bs)) few.1 in
    (few.0, sized.0, sized.1)

pub shape-some : (bs : Bounds) (rest : ℕ) → is_shape bs ≡ true → 1 ≤ rest → 1 ≤ unwrap_or (elements bs) rest
shape-some bs rest h one = by_elements (elements bs) (elements-some bs (shape-parts bs h).1) where
  by_elements : (o : Option ℕ) → IfSome o (λ n. 1 ≤ n) → 1 ≤ unwrap_or o rest
  by_elements None k = one
  by_elements (Some n) k = k

-- ---- how many bounds there are

-- there are as many bounds as dimensions
pub bounds-length : (unit : List Statement) (values : Values) (ds : List Dimension) (bs : Bounds) → bounds_of unit values ds ≡ Some bs → length bs ≡ length ds
bounds-length unit values [] bs e = ap (λ (cs : Bounds). length cs) (sym (same_Some [] bs e))
bounds-length unit values (d ∷ ds) bs e = by_parts (bounds-length unit values ds) (lower_value unit values d.lower) (upper_value unit values d.upper) (bounds_of unit values ds) refl e where
  by_parts : ((cs : Bounds) → bounds_of unit values ds ≡ Some cs → length cs ≡ length ds) → (l : Option ℤ) (u : Option (Option ℤ)) (r : Option Bounds) → bounds_of unit values ds ≡ r → bound_before (bound_of l u) r ≡ Some bs → length bs ≡ length (d ∷ ds)
  by_parts more (Some l) (Some u) (Some cs) h e =
      let known : Bound = record { lower = l; upper = u } in
      ap (λ (xs : Bounds). length xs) (sym (same_Some (known ∷ cs) bs e)) ∙ ap suc (more cs h)
  by_parts more _ _ _ h e = absurd (none-some bs e)

-- ---- more values

-- names have the values that they had, and others may have some too
abbrev pub AreMore : Values → Values → Type 0
AreMore old new = (x : Name) (v : Value) → old x ≡ Some v → new x ≡ Some v

-- what needs a value to give one gives the same for more
more-by : {A B : Type 0} (f : Option A → Option B) → f None ≡ None → (o p : Option A) → ((w : A) → o ≡ Some w → p ≡ Some w) → (v : B) → f o ≡ Some v → f p ≡ Some v
more-by f strict None p h v e = absurd (none-some v (sym strict ∙ e))
more-by f strict (Some w) p h v e = ap f (h w refl) ∙ e

meaning-strict : (m : Meaning) → by_meaning m None ≡ None
meaning-strict element = refl
meaning-strict _ = refl

two-strict : (o : Operator) (v : Option Value) → with_two (combined_value o) v None ≡ None
two-strict o None = refl
two-strict o (Some v) = refl

both-strict : (v : Option Value) → both v None ≡ None
both-strict None = refl
both-strict (Some v) = refl

module _ (unit : List Statement) (old new : Values) (more : AreMore old new) where
  mutual
    value-more : (t : Tree) (v : Value) → value_of unit old t ≡ Some v → value_of unit new t ≡ Some v
    value-more (constant w) v e = e
    value-more (occurrence p) v e = more p.name v e
    value-more (with_list p ts) v e =
        more-by (by_meaning (listed_meaning unit p.name)) (meaning-strict (listed_meaning unit p.name)) (values_of unit old ts) (values_of unit new ts) (values-more ts) v e
    value-more (parenthesized t) v e = value-more t v e
    value-more (signed s t) v e = more-by (with_one (signed_value s)) refl (value_of unit old t) (value_of unit new t) (value-more t) v e
    value-more (negated t) v e = more-by (with_one negated_value) refl (value_of unit old t) (value_of unit new t) (value-more t) v e
    value-more (binary o a b) v e =
        more-by (λ z. with_two (combined_value o) z (value_of unit new b)) refl (value_of unit old a) (value_of unit new a) (value-more a) v (
        more-by (with_two (combined_value o) (value_of unit old a)) (two-strict o (value_of unit old a)) (value_of unit old b) (value_of unit new b) (value-more b) v e)

    values-more : (ts : Trees) (vs : List Value) → values_of unit old ts ≡ Some vs → values_of unit new ts ≡ Some vs
    values-more no_trees vs e = e
    values-more (trees t ts) vs e =
        more-by (λ z. both z (values_of unit new ts)) refl (value_of unit old t) (value_of unit new t) (value-more t) vs (
        more-by (both (value_of unit old t)) (both-strict (value_of unit old t)) (values_of unit old ts) (values_of unit new ts) (values-more ts) vs e)

  value-same : (t : Tree) → is_some (value_of unit old t) ≡ true → value_of unit new t ≡ value_of unit old t
  value-same t h = by_value (value_of unit old t) refl h where
    by_value : (o : Option Value) → value_of unit old t ≡ o → is_some o ≡ true → value_of unit new t ≡ o
    by_value None e h = absurd cc
    by_value (Some v) e h = value-more t v e

module _ (unit : List Statement) (new : Values) (more : AreMore (constant_value unit) new) where
  lower-same : (t : Option Tree) → is_constant_lower unit t ≡ true → lower_value unit new t ≡ lower_value unit (constant_value unit) t
  lower-same None h = refl
  lower-same (Some t) h = ap (option_map integer_of) (value-same unit (constant_value unit) new more t h)

  upper-same : (u : UpperBound) → is_constant_upper unit u ≡ true → upper_value unit new u ≡ upper_value unit (constant_value unit) u
  upper-same Open h = refl
  upper-same (Expression t) h = ap (option_map (λ (v : Value). Some (integer_of v))) (value-same unit (constant_value unit) new more t h)

  pub bounds-same : (ds : List Dimension) → list_all (is_constant_dimension unit) ds ≡ true → bounds_of unit new ds ≡ bounds_of unit (constant_value unit) ds
  bounds-same [] h = refl
  bounds-same (d ∷ ds) h =
      let parts = and_parts (is_constant_dimension unit d) (list_all (is_constant_dimension unit) ds) h in
      let ends = and_parts (is_constant_lower unit d.lower) (is_constant_upper unit d.upper) parts.0 in
      λ k. bound_before (bound_of (lower-same d.lower ends.0 k) (upper-same d.upper ends.1 k)) (bounds-same ds parts.1 k)

-- ---- adjustable arrays

-- no dimension is adjustable, or all are
pub none-adjustable : (unit : List Statement) (x : Name) → is_array unit x ≡ true → adjustable_dimensions unit x ≡ 0 → list_all (is_constant_dimension unit) (dimensions_of unit x) ≡ true
none-adjustable unit x is none = by_test (list_all (is_constant_dimension unit) (dimensions_of unit x)) none where
  some : (ds : List Dimension) → is_nonempty ds ≡ true → length ds ≡ 0 → ⊥
  some [] h e = absurd cc
  some (d ∷ ds) h e = omega (arith, e)

  by_test : (b : Bool) → (if b then 0 else length (dimensions_of unit x)) ≡ 0 → b ≡ true
  by_test true e = refl
  by_test false e = absurd (some (dimensions_of unit x) is e)

pub all-adjustable : (unit : List Statement) (x : Name) → adjustable_dimensions unit x ≢ 0 → adjustable_dimensions unit x ≡ length (dimensions_of unit x)
all-adjustable unit x other = by_test (list_all (is_constant_dimension unit) (dimensions_of unit x)) other where
  by_test : (b : Bool) → (if b then 0 else length (dimensions_of unit x)) ≢ 0 → (if b then 0 else length (dimensions_of unit x)) ≡ length (dimensions_of unit x)
  by_test true h = absurd (h refl)
  by_test false h = refl
