-- The sources of a unit's names have their values in bounds, so that the code of an adjustable array comes to its shape: X3.9-1978, 5.5.1.
use Rattle.std.proofs.Common.{◌≡◌, ℕ, suc, Bool, true, false, ◌||◌, if◌then◌else◌, List, [], ◌∷◌, Option, Some, None, Ok, is_some, refl, ap, sym, ◌∙◌}
use Rattle.std.specs.Option.{option_map, option_or}
use Rattle.hep_machine.specs.Words.{Name, Statement, index_among, is_among, same_name, dummies_of, bound_values, dummy_with_shape, with_shape, constant_value, is_array, is_common, Scope, storage_by_dummy, storage_of, Dummy, Store}
use Rattle.hep_source.specs.declared.value.Value.{Value as Constant}
use Rattle.hep_code.specs.BoundCode.{is_source, value_at}
use Rattle.hep_code.specs.DimensionCode.{coded_shape}
use Rattle.hep_code.specs.Sources.{AreStored, adjustable_code, source_by, source_of}
use Rattle.hep_code.proofs.Dimensions.{shape_comes}
use Rattle.hep_source.proofs.Tests.{some-mapped}

-- a name is among others where it has an index
among_by_index : (x : Name) (xs : List Name) → is_among x xs ≡ is_some (index_among x xs)
among_by_index x [] = refl
among_by_index x (y ∷ ys) = by_test (same_name x y) (among_by_index x ys) where
  by_test : (b : Bool) → is_among x ys ≡ is_some (index_among x ys) → (if b then true else is_among x ys) ≡ is_some (if b then Some 0 else option_map suc (index_among x ys))
  by_test true h = refl
  by_test false h = h ∙ sym (some-mapped suc (index_among x ys))

source_takes_none : (v : Option Constant) (k : Option ℕ) (c : Bool) (p : ℕ) → is_source (source_by v k c p) ≡ true
source_takes_none (Some v) k c p = refl
source_takes_none None (Some k) c p = refl
source_takes_none None None true p = refl
source_takes_none None None false p = refl

pub source_is : (unit : List Statement) (cell : Name → ℕ) (x : Name) → is_source (source_of unit cell x) ≡ true
source_is unit cell x = source_takes_none (constant_value unit x) (index_among x (dummies_of unit)) (is_common unit x) (cell x)

module _ (scope : Scope) (store : Store) (cell : Name → ℕ) (common dummies : ℕ → Option Constant) (stored : AreStored scope store cell common dummies) where
  source_has : (x : Name) (v : Option Constant) (k : Option ℕ) (c : Bool) → index_among x (dummies_of scope.unit) ≡ k → is_common scope.unit x ≡ c
      → option_or v (if is_some k || c then (store (storage_by_dummy scope x k).start).value else None) ≡ value_at common dummies (source_by v k c (cell x))
  source_has x (Some v) k c h i = refl
  source_has x None (Some k) c h i = stored.in_dummies x k h
  source_has x None None true h i = stored.in_common x i
  source_has x None None false h i = refl

  pub value_found : (x : Name) → bound_values scope store x ≡ value_at common dummies (source_of scope.unit cell x)
  value_found x =
      let k = index_among x (dummies_of scope.unit) in
      ap (λ b. option_or (constant_value scope.unit x) (if b || is_common scope.unit x then (store (storage_of scope x).start).value else None)) (among_by_index x (dummies_of scope.unit))
      ∙ source_has x (constant_value scope.unit x) k (is_common scope.unit x) refl refl

  pub shaped : (x : Name) (d : Dummy) → with_shape scope store x d ≡ (if is_array scope.unit x then dummy_with_shape d (coded_shape common dummies (adjustable_code scope.unit cell x)) else Ok d)
  shaped x d =
      ap (λ o. if is_array scope.unit x then dummy_with_shape d o else Ok d) (sym (shape_comes common dummies scope.unit (source_of scope.unit cell) (bound_values scope store) (source_is scope.unit cell) value_found x))
