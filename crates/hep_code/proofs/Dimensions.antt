-- The code of an array's dimensions comes to the array's shape: X3.9-1978, 5.5.1.
use Rattle.std.proofs.Common.{◌≡◌, ℕ, ◌+◌, ◌*◌, ◌<◌, ◌≤◌, ℤ, pos, Bool, true, false, ◌&&◌, nat_le, if◌then◌else◌, List, [], ◌∷◌, length, refl, ap, sym, ◌∙◌, arith, Option, Some, None, append-nil}
use Rattle.std.specs.Option.{option_map}
use Rattle.hep_machine.specs.Words.{Dimension, UpperBound, Expression, Open, Name, Statement, Int, Tree, integer_of, Values, value_of, both, lower_value, upper_value, bound_of, bound_before, bounds_of, if_shape, shape_by, dimensions_of, Bounds, are_dimensions, is_between, is_most, elements, is_shape}
use Rattle.hep_source.specs.declared.value.Value.{Value as Constant}
use Rattle.hep_machine.specs.declared.shape.Bound.{Bound}
use Rattle.hep_code.specs.declared.bound.BoundOperation.{BoundOperation}
use Rattle.hep_code.specs.declared.bound.BoundOperation.TheVariants.{Value, Nowhere}
use Rattle.hep_code.specs.BoundCode.{Sources, is_source, code_of_bound, value_at}
use Rattle.hep_code.specs.DimensionCode.{code_of_lower, code_from_upper, code_of_dimensions, bounds_in, coded_shape}
use Rattle.hep_code.proofs.BoundValues.{ComesTo, ComeTo, all_behind, alone, list_comes, tree_comes}
use Rattle.hep_source.proofs.Tests.{and-false}

-- ---- how many bounds values are

most_bounds : (vs : List Constant) → 2 * length (bounds_in vs) ≤ length vs + 1
most_bounds [] = omega arith
most_bounds (l ∷ []) = omega arith
most_bounds (l ∷ u ∷ vs) = omega (arith, most_bounds vs)

least_bounds : (vs : List Constant) → length vs ≤ 2 * length (bounds_in vs)
least_bounds [] = omega arith
least_bounds (l ∷ []) = omega arith
least_bounds (l ∷ u ∷ vs) = omega (arith, least_bounds vs)

-- two values for each of seven dimensions
pub few_bounds : (vs : List Constant) → length vs ≤ 14 → length (bounds_in vs) ≤ 7
few_bounds vs h = omega (arith, h, most_bounds vs)

-- ---- bounds that aren't those of dimensions are no shape, whatever stands before them

abbrev if_dimensions : Option Bounds → Option Bounds
if_dimensions None = None
if_dimensions (Some bs) = if are_dimensions bs then Some bs else None

no_shape : (bs : Bounds) → 7 < length bs → if_shape (Some bs) ≡ None
no_shape bs h =
    let few : nat_le (length bs) 7 ≡ false = grind arith in
    let is : is_shape bs ≡ false = ap (λ b. nat_le 1 (length bs) && (b && (are_dimensions bs && is_most (elements bs)))) few ∙ and-false (nat_le 1 (length bs)) in
    ap (λ b. if b then Some bs else None) is

pub many_no_shape : (vs : List Constant) → 14 < length vs → if_shape (Some (bounds_in vs)) ≡ None
many_no_shape vs h = no_shape (bounds_in vs) (omega (arith, h, least_bounds vs))

shape_of_dimensions : (o : Option Bounds) → if_shape o ≡ if_shape (if_dimensions o)
shape_of_dimensions None = refl
shape_of_dimensions (Some bs) = by_test (are_dimensions bs) refl where
  by_test : (b : Bool) → are_dimensions bs ≡ b → if_shape (Some bs) ≡ if_shape (if b then Some bs else None)
  by_test true h = refl
  by_test false h =
      let is : is_shape bs ≡ false = ap (λ b. nat_le 1 (length bs) && (nat_le (length bs) 7 && (b && is_most (elements bs)))) h ∙ (ap (λ b. nat_le 1 (length bs) && b) (and-false (nat_le (length bs) 7)) ∙ and-false (nat_le 1 (length bs))) in
      ap (λ b. if b then Some bs else None) is

before_dimensions : (b : Bound) (o : Option Bounds) → if_dimensions (bound_before (Some b) o) ≡ if_dimensions (bound_before (Some b) (if_dimensions o))
before_dimensions b None = refl
before_dimensions b (Some bs) = by_test (are_dimensions bs) refl where
  by_test : (c : Bool) → are_dimensions bs ≡ c → if_dimensions (Some (b ∷ bs)) ≡ if_dimensions (bound_before (Some b) (if c then Some bs else None))
  by_test true h = refl
  by_test false h =
      ap (λ c. if c then Some (b ∷ bs) else None) (ap (λ c. is_between b.lower b.upper bs && c) h ∙ and-false (is_between b.lower b.upper bs))

before_same : (b : Bound) (o p : Option Bounds) → if_dimensions o ≡ if_dimensions p → if_dimensions (bound_before (Some b) o) ≡ if_dimensions (bound_before (Some b) p)
before_same b o p h = before_dimensions b o ∙ (ap (λ r. if_dimensions (bound_before (Some b) r)) h ∙ sym (before_dimensions b p))

-- an open bound before another dimension
open_before : (l : ℤ) (b : Option Bound) (r : Option Bounds) → if_dimensions (bound_before (Some (record { lower = l; upper = None })) (bound_before b r)) ≡ None
open_before l None r = refl
open_before l (Some b) None = refl
open_before l (Some b) (Some bs) = refl

-- ---- the values that the code leaves

module _ (common dummies : ℕ → Option Constant) (unit : List Statement) (source : Sources) (values : Values) where
  abbrev lower_left : Option Tree → Option Constant
  lower_left None = Some (Int (pos 1))
  lower_left (Some t) = value_of unit values t

  abbrev left_from_upper : UpperBound → List Dimension → Option (List Constant) → Option (List Constant)
  left_from_upper (Expression t) ds r = both (value_of unit values t) r
  left_from_upper Open [] r = r
  left_from_upper Open (d ∷ ds) r = None

  abbrev left : List Dimension → Option (List Constant)
  left [] = Some []
  left (d ∷ ds) = both (lower_left d.lower) (left_from_upper d.upper ds (left ds))

  -- they are the bounds, as far as these are dimensions

  abbrev Same : Option (List Constant) → Option Bounds → Type 0
  Same r o = if_dimensions (option_map bounds_in r) ≡ if_dimensions o

  lower_same : (t : Option Tree) → lower_value unit values t ≡ option_map integer_of (lower_left t)
  lower_same None = refl
  lower_same (Some t) = refl

  two_same : (l u : Constant) (r : Option (List Constant)) → option_map bounds_in (both (Some l) (both (Some u) r)) ≡ bound_before (Some (record { lower = integer_of l; upper = Some (integer_of u) })) (option_map bounds_in r)
  two_same l u None = refl
  two_same l u (Some vs) = refl

  expression_same : (q u : Option Constant) (r : Option (List Constant)) (o : Option Bounds) → Same r o → Same (both q (both u r)) (bound_before (bound_of (option_map integer_of q) (option_map (λ v. Some (integer_of v)) u)) o)
  expression_same None u r o h = refl
  expression_same (Some l) None r o h = refl
  expression_same (Some l) (Some u) r o h = ap if_dimensions (two_same l u r) ∙ before_same (record { lower = integer_of l; upper = Some (integer_of u) }) (option_map bounds_in r) o h

  open_same : (q : Option Constant) (d : Dimension) (ds : List Dimension) → Same (both q None) (bound_before (bound_of (option_map integer_of q) (Some None)) (bounds_of unit values (d ∷ ds)))
  open_same None d ds = refl
  open_same (Some l) d ds = sym (open_before (integer_of l) (bound_of (lower_value unit values d.lower) (upper_value unit values d.upper)) (bounds_of unit values ds))

  last_same : (q : Option Constant) → Same (both q (Some [])) (bound_before (bound_of (option_map integer_of q) (Some None)) (Some []))
  last_same None = refl
  last_same (Some l) = refl

  upper_same : (q : Option Constant) (u : UpperBound) (ds : List Dimension) → Same (left ds) (bounds_of unit values ds) → Same (both q (left_from_upper u ds (left ds))) (bound_before (bound_of (option_map integer_of q) (upper_value unit values u)) (bounds_of unit values ds))
  upper_same q (Expression t) ds h = expression_same q (value_of unit values t) (left ds) (bounds_of unit values ds) h
  upper_same q Open [] h = last_same q
  upper_same q Open (d ∷ ds) h = open_same q d ds

  all_same : (ds : List Dimension) → Same (left ds) (bounds_of unit values ds)
  all_same [] = refl
  all_same (d ∷ ds) =
      upper_same (lower_left d.lower) d.upper ds (all_same ds)
      ∙ ap (λ l. if_dimensions (bound_before (bound_of l (upper_value unit values d.upper)) (bounds_of unit values ds))) (sym (lower_same d.lower))

  -- ---- and the code leaves them

  module _ (sources : (x : Name) → is_source (source x) ≡ true) (found : (x : Name) → values x ≡ value_at common dummies (source x)) where
    lower_comes : (t : Option Tree) → ComesTo common dummies (code_of_lower source unit t) (lower_left t)
    lower_comes None = λ stack. alone common dummies (Value (Int (pos 1))) stack refl
    lower_comes (Some t) = tree_comes common dummies unit source values sources found t

    upper_comes : (u : UpperBound) (ds : List Dimension) (more : List BoundOperation) (r : Option (List Constant)) → ComeTo common dummies more r → ComeTo common dummies (code_from_upper source unit u ds more) (left_from_upper u ds r)
    upper_comes (Expression t) ds more r h = list_comes common dummies (code_of_bound source unit t) more (value_of unit values t) r (tree_comes common dummies unit source values sources found t) h
    upper_comes Open [] more r h = h
    upper_comes Open (d ∷ ds) more r h = λ stack. alone common dummies Nowhere stack refl

    dimensions_come : (ds : List Dimension) → ComeTo common dummies (code_of_dimensions source unit ds) (left ds)
    dimensions_come [] = λ stack. ap (λ xs. Some xs) (sym (append-nil stack))
    dimensions_come (d ∷ ds) =
        list_comes common dummies (code_of_lower source unit d.lower) (code_from_upper source unit d.upper ds (code_of_dimensions source unit ds)) (lower_left d.lower) (left_from_upper d.upper ds (left ds)) (lower_comes d.lower)
        (upper_comes d.upper ds (code_of_dimensions source unit ds) (left ds) (dimensions_come ds))

    -- nothing was there before
    alone_behind : (r : Option (List Constant)) → all_behind [] r ≡ r
    alone_behind None = refl
    alone_behind (Some vs) = refl

    pub shape_comes : (x : Name) → coded_shape common dummies (code_of_dimensions source unit (dimensions_of unit x)) ≡ shape_by unit values x
    shape_comes x =
        let ds = dimensions_of unit x in
        ap (λ r. if_shape (option_map bounds_in r)) (dimensions_come ds [] ∙ alone_behind (left ds))
        ∙ (shape_of_dimensions (option_map bounds_in (left ds)) ∙ (ap if_shape (all_same ds) ∙ sym (shape_of_dimensions (bounds_of unit values ds))))
