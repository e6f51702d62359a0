-- What DATA names is among the variables of its unit.
use Rattle.std.proofs.Common.{◌≡◌, zero, Bool, true, false, List, [], ◌∷◌, Some, refl, sym, ap, ◌∙◌, subst, if◌then◌else◌, slice_get}
use Rattle.std.specs.List.{flat_map}
use Rattle.std.specs.Option.{unwrap_or}
use Rattle.std.proofs.lemmas.Option.{none-some}
use Rattle.hep_machine.specs.Words.{DataGroup, Target, Name, Form, Statement, index_among, is_among, groups_in, is_array, is_nonempty, array_occurrence, is_local, locals_of, names_of, occurrences_in, occurrences_in_data_value, occurrences_in_form, occurrences_in_group, occurrences_in_statement, occurrences_in_target}
use Rattle.hep_source.specs.declared.statement.Form.TheVariants as form
use Rattle.hep_accepted_laws.proofs.Members.{Has, has_behind, has_filter, has_flat, has_front, has_among, name_of_unit}
use Rattle.hep_image.proofs.Members.{indexed}

-- a name stands at its index
pub at_index : (xs : List Name) (x : Name) → Has xs x → slice_get xs (unwrap_or (index_among x xs) 0) ≡ Some x
at_index xs x h = let found = indexed x xs (has_among xs x h) in ap (λ o. slice_get xs (unwrap_or o 0)) found.1 ∙ found.2

-- ---- names in DATA

module _ (unit : List Statement) (t : Target) (known : is_nonempty t.subscripts ≡ true → is_array unit t.occurrence.name ≡ true) where
  in_target : Has (occurrences_in_target unit t) t.occurrence
  in_target = has_front (if is_nonempty t.subscripts then array_occurrence unit t.occurrence else t.occurrence ∷ []) (flat_map (occurrences_in unit) t.subscripts) t.occurrence (by_list (is_nonempty t.subscripts) refl) where
    by_list : (b : Bool) → is_nonempty t.subscripts ≡ b → Has (if b then array_occurrence unit t.occurrence else t.occurrence ∷ []) t.occurrence
    by_list true e = subst (λ a. Has (if a then t.occurrence ∷ [] else []) t.occurrence) (sym (known e)) (zero, refl)
    by_list false e = (zero, refl)

  in_group : (g : DataGroup) → Has g.targets t → Has (occurrences_in_group unit g) t.occurrence
  in_group g h = has_front (flat_map (occurrences_in_target unit) g.targets) (flat_map occurrences_in_data_value g.values) t.occurrence (has_flat (occurrences_in_target unit) g.targets t t.occurrence h in_target)

  in_form : (f : Form) (g : DataGroup) → Has (groups_in f) g → Has g.targets t → Has (occurrences_in_form unit f) t.occurrence
  in_form (form.Data groups) g k h = has_flat (occurrences_in_group unit) groups g t.occurrence k (in_group g h)
  in_form _ g k h = absurd (none-some g k.1)

  pub named : (s : Statement) (g : DataGroup) → Has unit s → Has (groups_in s.form) g → Has g.targets t → Has (names_of unit) t.occurrence.name
  named s g i k h =
      name_of_unit unit t.occurrence (
      has_flat (occurrences_in_statement unit) unit s t.occurrence i (
      has_behind (flat_map (occurrences_in unit) s.conditions) (occurrences_in_form unit s.form) t.occurrence (in_form s.form g k h)))

pub local_among : (unit : List Statement) (x : Name) → Has (names_of unit) x → is_local unit x ≡ true → is_among x (locals_of unit) ≡ true
local_among unit x h local = has_among (locals_of unit) x (has_filter (is_local unit) (names_of unit) x h local)
