-- The dummy argument of an actual argument: X3.9-1978, 15.9.3, and docs/LANGUAGE.md, 9.
use Rattle.std.specs.Prelude.{◌≡◌, ◌⊎◌, ℕ, true, false, List, [], Some, length, slice_get}
use Rattle.hep_machine.specs.Words.{Name, Occurrence, Statement, dimensions_of, is_array, is_constant_name, is_nonempty, type_of, Actual, evaluated, referred, Reference, occurrences_of}

-- a variable of a unit: it occurs there, and is no named constant
pub record IsVariableOf (unit : List Statement) (x : Name) : Type 0 where
  pub named : Occurrence
  pub index : ℕ
  pub there : slice_get (occurrences_of unit) index ≡ Some named
  pub same_name : named.name ≡ x
  pub varies : is_constant_name unit x ≡ false

-- a variable, an element of an array or a whole array, given to a dummy argument of a unit
pub record IsGivenTo (unit callee : List Statement) (y : Name) (r : Reference) : Type 0 where
  pub variable : IsVariableOf unit r.0
  pub asynchronous : r.0.asynchronous ≡ y.asynchronous
  pub same_type : type_of unit r.0 ≡ type_of callee y
  -- an element has as many subscripts as its array has dimensions: 5.4.1
  pub subscripts : (r.1 ≡ []) ⊎ ((is_array unit r.0 ≡ true) × (length r.1 ≡ length (dimensions_of unit r.0)))
  -- an array gets an array or an element of one, and a scalar no whole array
  pub array : is_array callee y ≡ true → is_array unit r.0 ≡ true
  pub scalar : is_array callee y ≡ false → is_array unit r.0 ≡ is_nonempty r.1

-- a scalar without `$` gets an expression
abbrev pub FitsDummy : List Statement → List Statement → Name → Actual → Type 0
FitsDummy unit callee y (evaluated v) = (y.asynchronous ≡ false) × (is_array callee y ≡ false)
FitsDummy unit callee y (referred r) = IsGivenTo unit callee y r
