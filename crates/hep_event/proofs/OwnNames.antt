-- What is no dummy argument goes by its own name, or stands in COMMON.
use Rattle.std.proofs.Common.{◌≡◌, ℕ, true, false, true≢false, List, Option, Some, None, Result, Ok, Err, refl, sym, ap, ◌∙◌, subst}
use Rattle.std.specs.Str.{bytes_eq}
use Rattle.std.specs.Option.{unwrap_or}
use Rattle.hep_image.proofs.NamedNumbers.{array-listed, at-index, by-kind}
use Rattle.hep_image.specs.declared.array.Start.{Start}
use Rattle.hep_image.specs.declared.array.Start.TheVariants.{Dummy, Local}
use Rattle.hep_image.specs.Places.{array_of, arrays_of, start_of, variable_of}
use Rattle.hep_layout.specs.Words.{argument, first_of_part}
use Rattle.hep_machine.specs.declared.event.Kind.{Kind}
use Rattle.hep_machine.specs.Words.{BlockName, Name, Statement, Units, Value, common_block, dummies_of, index_among, location_of_name, spelling, unit_at, Scope, element_of, location_in, own_storage, start_by_block, storage_by_dummy}
use Rattle.hep_step.specs.Simulation.{unit_arrays}
use Rattle.hep_event.specs.AccessedNames.{is_name, name_at}
use Rattle.hep_event.specs.VariableBreakpoints.{is_dummy, is_passed, starts_as_dummy}

-- ---- dummy arguments

module _ (program : Units) (u : ℕ) (x : Name) where
  abbrev unit : List Statement
  unit = unit_at program u

  dummy-starts : (k : ℕ) → index_among x (dummies_of unit) ≡ Some k → start_of program unit x ≡ Some (Dummy (first_of_part unit (argument x)))
  unfolding start_of
  dummy-starts k is = cc

  dummy-is : (k : ℕ) → index_among x (dummies_of unit) ≡ Some k → is_dummy (unit_arrays program u) (variable_of program unit x) ≡ true
  dummy-is k is =
      let at : Start = Dummy (first_of_part unit (argument x)) in
      let starts = dummy-starts k is in
      by-kind program unit x at (λ v. is_dummy (unit_arrays program u) v ≡ true) starts
      (λ array.
      ap is_passed (at-index x (array_of program unit) (arrays_of unit) (array-listed x unit array))
      ∙ ap (λ o. starts_as_dummy (unwrap_or o (Local 0))) starts)
      (λ scalar. refl)

  -- a variable that is none
  pub no-dummy : is_dummy (unit_arrays program u) (variable_of program unit x) ≡ false → index_among x (dummies_of unit) ≡ None
  no-dummy other = by (index_among x (dummies_of unit)) refl where
    by : (o : Option ℕ) → index_among x (dummies_of unit) ≡ o → o ≡ None
    by None e = refl
    by (Some k) e = absurd (true≢false (sym (dummy-is k e) ∙ other))

-- ---- the name with which its storage unit is declared

module _ (name : List ℕ) (scope : Scope) (x : Name) (vs : List Value) (other : bytes_eq name (spelling x) ≡ false) where
  located : (rest : ℕ) → (r : Result ℕ Kind) (b : Option BlockName) → is_name name (name_at (location_in (record (own_storage scope x) { start = start_by_block scope x b }) r)) ≡ false
  located rest (Err k) b = refl
  located rest (Ok n) None = other
  located rest (Ok n) (Some b) = refl

  pub declared-otherwise : index_among x (dummies_of scope.unit) ≡ None → is_name name (name_at (location_of_name scope x vs)) ≡ false
  declared-otherwise none =
      subst (λ o. is_name name (name_at (location_in (storage_by_dummy scope x o) (element_of (storage_by_dummy scope x o) vs))) ≡ false) (sym none) (
      located 0 (element_of (own_storage scope x) vs) (common_block scope.unit x))
