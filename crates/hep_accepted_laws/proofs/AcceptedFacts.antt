-- What acceptance says of a unit, as it is wanted of its code.
use Rattle.std.proofs.Common.{◌≡◌, ◌<◌, ℕ, Bool, true, false, List, [], ◌∷◌, Some, None, refl, sym, ap, ◌∙◌, true≢false, slice_get, length, not, ◌&&◌}
use Rattle.std.proofs.lemmas.Bool.{false_from_ne_true}
use Rattle.std.proofs.lemmas.Option.{none-some}
use Rattle.hep_machine.specs.Words.{Tree, NamedConstant, Target, StateFunction, Name, DoControl, Statement, Units, unit_at, constant_value, function_name, is_array, is_constant_name, is_nonempty, named_constants, names_of_constants, listed_meaning, state}
use Rattle.hep_source.specs.declared.statement.Form.TheVariants as form
use Rattle.hep_conditions.specs.Words.{FunctionTypes, function_types, IsAccepted, is_not_held, NameWithList, names_with_lists, targets_assigned, targets_purged, is_plain_integer_scalar}
use Rattle.hep_accepted_laws.specs.Agreement.{IsOneAsynchronousScalar}
use Rattle.hep_accepted_laws.specs.PartlyEvaluated.{HasValue}
use Rattle.hep_accepted_laws.proofs.Agreed.{purged_no_constant, tested_are_asynchronous}
use Rattle.hep_accepted_laws.proofs.Shaped.{constants_have_values}
use Rattle.hep_accepted_laws.proofs.NameMeanings.{assigned_known, constant_is_scalar, constant_not_assigned, purged_known, result_no_constant}
use Rattle.hep_accepted_laws.proofs.Members.{Has, among_has, map_at}
use Rattle.hep_accepted_laws.proofs.Nested.{held_is_allowed, loop_variable}
use Rattle.hep_accepted_laws.proofs.Valued.{ConstantsAgree}
use Rattle.hep_image.proofs.Numbers.{unit-there}

-- of the program with these functions
pub record Facts (functions : FunctionTypes) (unit : List Statement) : Type 0 where
  pub scalar : (x : Name) → is_constant_name unit x ≡ true → is_array unit x ≡ false
  pub valued : (i : ℕ) (c : NamedConstant) → slice_get (named_constants unit) i ≡ Some c → HasValue unit c
  pub assigned_variable : (k i : ℕ) (s : Statement) (t : Target) → slice_get unit k ≡ Some s → slice_get (targets_assigned s.form) i ≡ Some t → is_constant_name unit t.occurrence.name ≡ false
  pub assigned_array : (k i : ℕ) (s : Statement) (t : Target) → slice_get unit k ≡ Some s → slice_get (targets_assigned s.form) i ≡ Some t → is_nonempty t.subscripts ≡ true → is_array unit t.occurrence.name ≡ true
  pub purged_array : (k i : ℕ) (s : Statement) (t : Target) → slice_get unit k ≡ Some s → slice_get (targets_purged s.form) i ≡ Some t → is_nonempty t.subscripts ≡ true → is_array unit t.occurrence.name ≡ true
  pub purged_variable : (k i : ℕ) (s : Statement) (t : Target) → slice_get unit k ≡ Some s → slice_get (targets_purged s.form) i ≡ Some t → is_constant_name unit t.occurrence.name ≡ false
  pub tested : (k i : ℕ) (s : Statement) (r : NameWithList) (f : StateFunction) → slice_get unit k ≡ Some s → slice_get (names_with_lists s) i ≡ Some r → listed_meaning unit r.occurrence.name ≡ state f → IsOneAsynchronousScalar functions unit r.arguments
  pub loop_variable : (k : ℕ) (s : Statement) (c : DoControl) → slice_get unit k ≡ Some s → s.conditions ≡ [] → s.form ≡ form.Do c → is_plain_integer_scalar unit c.variable.name ≡ true
  pub held : (k : ℕ) (s : Statement) (t : Tree) (ts : List Tree) → slice_get unit k ≡ Some s → s.conditions ≡ t ∷ ts → is_not_held s.form ≡ false
  -- a function's name is no constant's
  pub result : (x : Name) → function_name unit ≡ Some x → is_constant_name unit x ≡ false

pub facts_of : ConstantsAgree → (program : Units) (u : ℕ) → IsAccepted program → u < length program → Facts (function_types program) (unit_at program u)
facts_of agrees program u accepted h = record {
  scalar = λ x. constant_is_scalar program u (unit_at program u) x accepted (unit-there program u h);
  valued = λ i c. constants_have_values agrees program u i (unit_at program u) c accepted (unit-there program u h);
  assigned_variable = λ k i s t. constant_not_assigned program u k i (unit_at program u) s t accepted (unit-there program u h);
  assigned_array = λ k i s t. assigned_known program u k i (unit_at program u) s t accepted (unit-there program u h);
  purged_array = λ k i s t. purged_known program u k i (unit_at program u) s t accepted (unit-there program u h);
  purged_variable = λ k i s t. purged_no_constant program u k i (unit_at program u) s t accepted (unit-there program u h);
  tested = λ k i s r f. tested_are_asynchronous program u k i (unit_at program u) s r f accepted (unit-there program u h);
  loop_variable = λ k s c. loop_variable program u k (unit_at program u) s c accepted (unit-there program u h);
  held = λ k s t ts. held_is_allowed program u k (unit_at program u) s t ts accepted (unit-there program u h);
  result = λ x. result_no_constant program u (unit_at program u) x accepted (unit-there program u h);
}

-- ---- named constants

pub plain_no_constant : (unit : List Statement) (x : Name) → is_plain_integer_scalar unit x ≡ true → is_constant_name unit x ≡ false
plain_no_constant unit x e = by_test (is_constant_name unit x) _ e where
  by_test : (b rest : Bool) → (not b && rest) ≡ true → b ≡ false
  by_test true rest f = absurd (true≢false (sym f))
  by_test false rest f = refl

module _ (functions : FunctionTypes) (unit : List Statement) (facts : Facts functions unit) where
  -- each of them is one of those that PARAMETER names
  named : (x : Name) → is_constant_name unit x ≡ true → (c : NamedConstant) × Has (named_constants unit) c × (c.occurrence.name ≡ x)
  named x e =
      let among = among_has x (names_of_constants (named_constants unit)) e in
      let c = map_at (λ (d : NamedConstant). d.occurrence.name) (named_constants unit) among.0 x among.1 in
      (c.0, (among.0, c.1), c.2)

  pub without_value : (x : Name) → constant_value unit x ≡ None → is_constant_name unit x ≡ false
  without_value x none = false_from_ne_true (is_constant_name unit x) (λ e.
      let c = named x e in
      let v = facts.valued (c.1).0 c.0 (c.1).1 in
      none-some v.0 (sym none ∙ (ap (constant_value unit) (sym c.2) ∙ v.1)))

  pub array_no_constant : (x : Name) → is_array unit x ≡ true → is_constant_name unit x ≡ false
  array_no_constant x e = false_from_ne_true (is_constant_name unit x) (λ c. true≢false (sym e ∙ facts.scalar x c))

  -- ---- DO

  pub loop_no_constant : (k : ℕ) (s : Statement) (c : DoControl) → slice_get unit k ≡ Some s → s.form ≡ form.Do c → is_constant_name unit c.variable.name ≡ false
  loop_no_constant k s c ik e = by_conditions s.conditions refl where
    by_conditions : (ts : List Tree) → s.conditions ≡ ts → is_constant_name unit c.variable.name ≡ false
    by_conditions [] f = plain_no_constant unit c.variable.name (facts.loop_variable k s c ik f e)
    by_conditions (t ∷ ts) f = absurd (true≢false (sym (ap is_not_held e) ∙ facts.held k s t ts ik f))
