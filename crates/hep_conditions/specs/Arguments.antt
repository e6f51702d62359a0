-- Condition 304, on the kinds of arguments and on the targets of PURGE (X3.9-1978, 15.6.2.3 and 15.9.3, and docs/LANGUAGE.md, 9).
use Rattle.std.specs.Prelude.{ℕ, Bool, true, false, not, ◌&&◌, ◌||◌, if◌then◌else◌, List, [], ◌∷◌, Option, Some, None}
use Rattle.std.specs.List.{flat_map, list_all}
use Rattle.hep_machine.specs.Words.{list_of, Tree, Trees, occurrence, with_list, no_trees, trees, Target, ValueType, Name, Statement, same_logical, type_of, is_array, is_constant_name, is_nonempty, Meaning, element, state, external, is_external, listed_meaning, Units, unit_at, subroutine_called, function_called, dummies_of}
use Rattle.hep_conditions.specs.Statements.{NameWithList, names_with_lists, targets_purged, Calling, calls_in, FunctionTypes, is_function_in, KnownType, type_of_tree, same_declared, agree}
use Rattle.hep_conditions.specs.Violations.{Violations, at_line, when}

-- ---- actual arguments: 15.9.2

-- the class of an actual argument
pub data ActualClass : Type 0 where
  -- an expression, by its type
  value : (t : KnownType) → ActualClass
  -- a variable or an element of an array
  variable : (asynchronous : Bool) (is_element : Bool) (t : Option ValueType) → ActualClass
  whole_array : (asynchronous : Bool) (t : Option ValueType) → ActualClass
  -- a name with a list that is no array and no function: its class isn't known
  unknown_list : ActualClass

module _ (functions : FunctionTypes) where
  -- the class of a name by itself; the name of a function is no argument (309)
  abbrev pub given_name : List Statement → Name → ActualClass
  given_name unit x =
      if is_constant_name unit x
      then value (Some (type_of unit x))
      else if is_function_in functions unit x
      then value None
      else (if is_array unit x then whole_array x.asynchronous (type_of unit x) else variable x.asynchronous false (type_of unit x))

  abbrev pub given_with_list : List Statement → Meaning → Name → KnownType → ActualClass
  given_with_list unit element x t = variable x.asynchronous true (type_of unit x)
  given_with_list unit external x None = unknown_list
  given_with_list unit external x (Some t) = value (Some t)
  given_with_list unit _ x t = value t

  abbrev pub actual_class : List Statement → Tree → ActualClass
  actual_class unit (occurrence p) = given_name unit p.name
  actual_class unit (with_list p ts) = given_with_list unit (listed_meaning unit p.name) p.name (type_of_tree functions unit (with_list p ts))
  actual_class unit t = value (type_of_tree functions unit t)

-- whether an actual argument fits a scalar dummy argument of this type, asynchronous or not
abbrev pub fits_scalar : Bool → Option ValueType → ActualClass → Bool
fits_scalar asynchronous t (value u) = not asynchronous && agree u (Some t)
fits_scalar asynchronous t (variable a e u) = same_logical asynchronous a && same_declared t u
fits_scalar asynchronous t (whole_array a u) = false
fits_scalar asynchronous t unknown_list = true

-- whether an actual argument fits an array dummy argument: it is an array or an element of an array
abbrev pub fits_array : Bool → Option ValueType → ActualClass → Bool
fits_array asynchronous t (value u) = false
fits_array asynchronous t (variable a e u) = e && (same_logical asynchronous a && same_declared t u)
fits_array asynchronous t (whole_array a u) = same_logical asynchronous a && same_declared t u
fits_array asynchronous t unknown_list = false

-- ---- calls: 15.6.2.3 and 15.9.3

abbrev pub fits_dummy : List Statement → Name → ActualClass → Bool
fits_dummy unit x g =
    if is_array unit x then fits_array x.asynchronous (type_of unit x) g else fits_scalar x.asynchronous (type_of unit x) g

-- whether the actual arguments fit the dummy arguments, as far as there are some
abbrev pub fit_dummies : List Statement → List Name → List ActualClass → Bool
fit_dummies unit (x ∷ xs) (g ∷ gs) = fits_dummy unit x g && fit_dummies unit xs gs
fit_dummies unit _ _ = true

module _ (functions : FunctionTypes) where
  abbrev pub all_given : List Statement → List Tree → List ActualClass
  all_given unit [] = []
  all_given unit (t ∷ ts) = actual_class functions unit t ∷ all_given unit ts

  abbrev pub fits_subroutine : Units → List Statement → Option ℕ → List Tree → Bool
  fits_subroutine program unit None ts = true
  fits_subroutine program unit (Some u) ts = fit_dummies (unit_at program u) (dummies_of (unit_at program u)) (all_given unit ts)

  abbrev pub fits_call : Units → List Statement → Calling → Bool
  fits_call program unit c = fits_subroutine program unit (subroutine_called program c.occurrence.name) c.actuals

  -- whether the arguments of a reference of a function of the program fit
  abbrev pub fits_reference : Units → List Statement → NameWithList → Bool
  fits_reference program unit r =
      not (is_external (listed_meaning unit r.occurrence.name)) || fits_subroutine program unit (function_called program r.occurrence.name) (list_of r.arguments)

  -- ---- FULL, EMPTY, VALUE, SETE, WAITF and PURGE: docs/LANGUAGE.md, 8 and 9

  abbrev pub is_asynchronous_scalar : ActualClass → Bool
  is_asynchronous_scalar (value t) = false
  is_asynchronous_scalar (variable a e t) = a
  is_asynchronous_scalar (whole_array a t) = false
  is_asynchronous_scalar unknown_list = false

  abbrev pub is_tested_typed : List Statement → Trees → Bool
  is_tested_typed unit no_trees = true
  is_tested_typed unit (trees t ts) = is_asynchronous_scalar (actual_class functions unit t)

  abbrev pub is_test_typed : List Statement → Meaning → Trees → Bool
  is_test_typed unit (state f) ts = is_tested_typed unit ts
  is_test_typed unit _ ts = true

  abbrev pub is_reference_given : List Statement → NameWithList → Bool
  is_reference_given unit r = is_test_typed unit (listed_meaning unit r.occurrence.name) r.arguments

  -- whether a target may be purged: an asynchronous variable, array or element, but no named constant
  abbrev pub is_purgeable : List Statement → Target → Bool
  is_purgeable unit t =
      t.occurrence.name.asynchronous && (not (is_constant_name unit t.occurrence.name) && (not (is_nonempty t.subscripts) || is_array unit t.occurrence.name))

  abbrev pub argument_violations : Units → List Statement → Violations
  argument_violations program unit =
      flat_map (λ (s : Statement).
      when (not (list_all (fits_call program unit) (calls_in s.form) && (list_all (fits_reference program unit) (names_with_lists s) && (list_all (is_reference_given unit) (names_with_lists s) && list_all (is_purgeable unit) (targets_purged s.form))))) (at_line 304 s.line)) unit
