-- The statements of a unit of an accepted program are as their code needs them, where its names and what it calls are.
use Rattle.std.proofs.Common.{◌≡◌, ◌⊎◌, inl, inr, zero, true, false, List, [], ◌∷◌, ◌++◌, length, Some, refl, sym, subst}
use Rattle.std.specs.List.{flat_map}
use Rattle.std.proofs.lemmas.Option.{none-some, same_Some}
use Rattle.hep_machine.specs.Words.{Trees, array_occurrence, binary, constant, external, function_by_header, function_name, listed_meaning, negated, no_trees, occurrence, occurrences_in_all, parenthesized, signed, trees, with_list}
use Rattle.hep_machine.specs.Words.{Tree, Target, Name, Occurrence, Form, Statement, is_constant_name, occurrences_in, occurrences_in_form, occurrences_in_statement, occurrences_in_target, occurrences_of}
use Rattle.hep_source.specs.declared.statement.Form.TheVariants as form
use Rattle.hep_conditions.specs.Words.{Calling, FunctionTypes, NameWithList, calls_in, list_of, names_with_lists, names_with_lists_in, names_with_lists_in_all, targets_assigned, targets_purged, trees_in_form, trees_in_statement}
use Rattle.hep_accepted_laws.proofs.StatementForms.{occurrence_in_statement}
use Rattle.hep_accepted_laws.proofs.Members.{Has, flat_has, has_behind, has_either, has_first_or, has_flat, has_front, has_one}
use Rattle.hep_code.specs.Words.{count, argument_of, argument_of_target, AddressedUnit, names_of}
use Rattle.hep_accepted_laws.proofs.Coded.{IsResolved, IsRight, Wish}
use Rattle.hep_accepted_laws.proofs.AcceptedFacts.{Facts, array_no_constant, loop_no_constant, without_value}
use Rattle.hep_accepted_laws.proofs.Executed.{target_occurs, in_form}

-- ---- where names occur

assigned_occurs : (unit : List Statement) (f : Form) (t : Target) → Has (targets_assigned f) t → Has (occurrences_in_target unit t) t.occurrence → Has (occurrences_in_form unit f) t.occurrence
assigned_occurs unit (form.Assign x e) t h g =
    has_front (occurrences_in_target unit x) (occurrences_in unit e) t.occurrence (subst (λ y. Has (occurrences_in_target unit y) t.occurrence) (sym (has_one x t h)) g)
assigned_occurs unit _ t h g = absurd (none-some t h.1)

purged_occurs : (unit : List Statement) (f : Form) (t : Target) → Has (targets_purged f) t → Has (occurrences_in_target unit t) t.occurrence → Has (occurrences_in_form unit f) t.occurrence
purged_occurs unit (form.Purge ts) t h g = has_flat (occurrences_in_target unit) ts t t.occurrence h g
purged_occurs unit _ t h g = absurd (none-some t h.1)

-- an actual argument is an expression of its form
actual_tree : (f : Form) (c : Calling) (t : Tree) → Has (calls_in f) c → Has c.actuals t → Has (trees_in_form f) t
actual_tree (form.Call p ts) c t h g = subst (λ (d : Calling). Has d.actuals t) (sym (has_one (record { occurrence = p; actuals = ts }) c h)) g
actual_tree (form.Create p ts) c t h g = subst (λ (d : Calling). Has d.actuals t) (sym (has_one (record { occurrence = p; actuals = ts }) c h)) g
actual_tree _ c t h g = absurd (none-some c h.1)

-- the name of a function is that of its header
result_occurs : (unit : List Statement) (x : Name) → function_name unit ≡ Some x → (p : Occurrence) × Has (occurrences_of unit) p × (p.name ≡ x)
result_occurs [] x e = absurd (none-some x e)
result_occurs (s ∷ ss) x e =
    let found = by_form s.form e in
    (found.0, has_front (occurrences_in_statement (s ∷ ss) s) (flat_map (occurrences_in_statement (s ∷ ss)) ss) found.0 (has_behind (flat_map (occurrences_in (s ∷ ss)) s.conditions) (occurrences_in_form (s ∷ ss) s.form) found.0 found.1), found.2)
  where
    by_form : (f : Form) → function_by_header f ≡ Some x → (p : Occurrence) × Has (occurrences_in_form (s ∷ ss) f) p × (p.name ≡ x)
    by_form (form.Function t p dummies) e = (p, (zero, refl), same_Some p.name x e)
    by_form _ e = absurd (none-some x e)

-- names in what stands in the list of a name
module _ (unit : List Statement) (r : NameWithList) (t : Tree) (p : Occurrence) (i : Has (list_of r.arguments) t) (j : Has (occurrences_in unit t) p) where
  in_all : (ts : Trees) → Has (list_of ts) t → Has (occurrences_in_all unit ts) p
  in_all no_trees h = absurd (none-some t h.1)
  in_all (trees q qs) h =
      elim (has_first_or q (list_of qs) t h) [
        | inl e ↦ has_front (occurrences_in unit q) (occurrences_in_all unit qs) p (subst (λ v. Has (occurrences_in unit v) p) (sym e) j)
        | inr k ↦ has_behind (occurrences_in unit q) (occurrences_in_all unit qs) p (in_all qs k)
      ]

  mutual
    pub in_listed : (e : Tree) → Has (names_with_lists_in e) r → Has (occurrences_in unit e) p
    in_listed (constant v) h = absurd (none-some r h.1)
    in_listed (occurrence q) h = absurd (none-some r h.1)
    in_listed (with_list q ts) h =
        has_behind (array_occurrence unit q) (occurrences_in_all unit ts) p (
        elim (has_first_or (record { occurrence = q; arguments = ts }) (names_with_lists_in_all ts) r h) [
          | inl e ↦ in_all ts (subst (λ (z : NameWithList). Has (list_of z.arguments) t) (sym e) i)
          | inr k ↦ in_listed_all ts k
        ])
    in_listed (parenthesized e) h = in_listed e h
    in_listed (signed s e) h = in_listed e h
    in_listed (negated e) h = in_listed e h
    in_listed (binary o a b) h =
        elim (has_either (names_with_lists_in a) (names_with_lists_in b) r h) [
          | inl k ↦ has_front (occurrences_in unit a) (occurrences_in unit b) p (in_listed a k)
          | inr k ↦ has_behind (occurrences_in unit a) (occurrences_in unit b) p (in_listed b k)
        ]

    in_listed_all : (es : Trees) → Has (names_with_lists_in_all es) r → Has (occurrences_in_all unit es) p
    in_listed_all no_trees h = absurd (none-some r h.1)
    in_listed_all (trees e es) h =
        elim (has_either (names_with_lists_in e) (names_with_lists_in_all es) r h) [
          | inl k ↦ has_front (occurrences_in unit e) (occurrences_in_all unit es) p (in_listed e k)
          | inr k ↦ has_behind (occurrences_in unit e) (occurrences_in_all unit es) p (in_listed_all es k)
        ]

module _ (functions : FunctionTypes) (addressed : AddressedUnit) (facts : Facts functions addressed.unit) (w : Wish) where
  abbrev pub AllNamed : Type 0
  AllNamed = (p : Occurrence) → Has (occurrences_of addressed.unit) p → is_constant_name addressed.unit p.name ≡ false → w.variable (addressed.variables p.name)

  pub resolved : ((x : Name) → x.asynchronous ≡ true → w.variable (addressed.variables x) → w.tested (addressed.variables x)) → AllNamed → IsResolved functions addressed w
  resolved asked named = record {
    valued = without_value functions addressed.unit facts;
    scalar = array_no_constant functions addressed.unit facts;
    asked = asked;
    result = λ x e.
        let p = result_occurs addressed.unit x e in
        subst (λ y. w.variable (addressed.variables y)) p.2 (named p.0 p.1 (subst (λ y. is_constant_name addressed.unit y ≡ false) (sym p.2) (facts.result x e)));
  }

  -- an occurrence in the form of a statement is one in the unit
  occurs : (s : Statement) (p : Occurrence) → Has addressed.unit s → Has (occurrences_in_form addressed.unit s.form) p → Has (occurrences_of addressed.unit) p
  occurs s p h g =
      has_flat (occurrences_in_statement addressed.unit) addressed.unit s p h (has_behind (flat_map (occurrences_in addressed.unit) s.conditions) (occurrences_in_form addressed.unit s.form) p g)

  -- what is purged is a name of the unit
  pub purged_in_unit : (s : Statement) (t : Target) → Has addressed.unit s → Has (targets_purged s.form) t → Has (occurrences_of addressed.unit) t.occurrence
  purged_in_unit s t h g =
      occurs s t.occurrence h (purged_occurs addressed.unit s.form t g (target_occurs addressed.unit t (facts.purged_array h.0 g.0 s t h.1 g.1)))

  -- so is each name in an expression
  pub tree_in_unit : (s : Statement) (e : Tree) (p : Occurrence) → Has addressed.unit s → Has (trees_in_statement s) e → Has (occurrences_in addressed.unit e) p → Has (occurrences_of addressed.unit) p
  tree_in_unit s e p h g i =
      has_flat (occurrences_in_statement addressed.unit) addressed.unit s p h (occurrence_in_statement addressed.unit s e p g i)

  -- each name in the list of a name
  pub given_in_unit : (s : Statement) (r : NameWithList) (t : Tree) (p : Occurrence) → Has addressed.unit s → Has (names_with_lists s) r → Has (list_of r.arguments) t → Has (occurrences_in addressed.unit t) p → Has (occurrences_of addressed.unit) p
  given_in_unit s r t p h g i j =
      let e = flat_has names_with_lists_in (trees_in_statement s) r g in
      tree_in_unit s e.0 p h e.1 (in_listed addressed.unit r t p i j e.0 e.2)

  -- and each name in an actual argument
  pub actual_in_unit : (s : Statement) (c : Calling) (t : Tree) (p : Occurrence) → Has addressed.unit s → Has (calls_in s.form) c → Has c.actuals t → Has (occurrences_in addressed.unit t) p → Has (occurrences_of addressed.unit) p
  actual_in_unit s c t p h g i j = tree_in_unit s t p h (in_form s t (actual_tree s.form c t g i)) j

  -- what is wanted of what a unit calls, passes and purges
  pub record Others : Type 0 where
    pub called : (s : Statement) (c : Calling) → Has addressed.unit s → Has (calls_in s.form) c → w.call (addressed.subroutines c.occurrence.name) (length c.actuals)
    pub passed : (s : Statement) (c : Calling) (t : Tree) → Has addressed.unit s → Has (calls_in s.form) c → Has c.actuals t → w.argument (argument_of (names_of addressed) t)
    pub referred : (s : Statement) (r : NameWithList) → Has addressed.unit s → Has (names_with_lists s) r → listed_meaning addressed.unit r.occurrence.name ≡ external → w.refer (addressed.functions r.occurrence.name) (count r.arguments)
    pub given : (s : Statement) (r : NameWithList) (t : Tree) → Has addressed.unit s → Has (names_with_lists s) r → Has (list_of r.arguments) t → w.argument (argument_of (names_of addressed) t)
    pub creating : (s : Statement) (p : Occurrence) (ts : List Tree) → Has addressed.unit s → s.form ≡ form.Create p ts → w.create
    pub purging : (s : Statement) (ts : List Target) → Has addressed.unit s → s.form ≡ form.Purge ts → w.purge
    pub purged : (s : Statement) (t : Target) → Has addressed.unit s → Has (targets_purged s.form) t → w.argument (argument_of_target (names_of addressed) t)

  pub right : AllNamed → Others → (s : Statement) → Has addressed.unit s → IsRight functions addressed w s
  right named others s h = record {
    expressions = λ e g. (
      (λ p i. named p (tree_in_unit s e p h g i)),
      (λ r i.
          let j = has_flat names_with_lists_in (trees_in_statement s) e r g i in
          record {
            tested = λ f m. facts.tested h.0 j.0 s r f h.1 j.1 m;
            referred = λ m. others.referred s r h j m;
            given = λ t m k. others.given s r t h j k;
          }),
    );
    rest = record {
      assigned = λ t g.
          named t.occurrence
          (occurs s t.occurrence h (assigned_occurs addressed.unit s.form t g (target_occurs addressed.unit t (facts.assigned_array h.0 g.0 s t h.1 g.1))))
          (facts.assigned_variable h.0 g.0 s t h.1 g.1);
      looped = λ c e.
          named c.variable
          (occurs s c.variable h (subst (λ f. Has (occurrences_in_form addressed.unit f) c.variable) (sym e) (zero, refl)))
          (loop_no_constant functions addressed.unit facts h.0 s c h.1 e);
      called = λ c g. others.called s c h g;
      passed = λ c t g i. others.passed s c t h g i;
      creating = λ p ts e. others.creating s p ts h e;
      purging = λ ts e. others.purging s ts h e;
      purged = λ t g. others.purged s t h g;
    };
  }
