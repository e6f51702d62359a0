-- What is sought of a statement is a reference of a function that stands in it.
use Rattle.std.proofs.Common.{◌≡◌, ◌⊎◌, inl, inr, ℕ, zero, suc, Bool, true, false, List, [], ◌∷◌, ◌++◌, Option, Some, None, refl, sym, ap, ◌∙◌, subst, if◌then◌else◌, slice_get, drop, option_to_list}
use Rattle.std.specs.List.{flat_map}
use Rattle.std.specs.Option.{unwrap_or}
use Rattle.std.proofs.lemmas.Option.{none-some}
use Rattle.hep_machine.specs.Words.{Tree, Trees, constant, occurrence, with_list, parenthesized, signed, negated, binary, no_trees, trees, trees_of, Target, DoControl, Form, PrintItem, Expression, Characters, Occurrence, Name, Statement, Value, constant_value, no_statement, statement_at}
use Rattle.hep_machine.specs.Words.{Action, Actual, actual_of, actual_of_name, actual_of_listed, actuals_in, actuals_of, combined, evaluated, first_redex, mapped_part, Next, next_by, next_of, next_of_form, Part, part_of, part_of_listed, part_of_name, parts_of, redex_of, Redex, Reference, reference_of, reference_of_listed, reference_part, referred, referring, RedexOrReference, then_part, wants, whole}
use Rattle.hep_machine.specs.Words.{assigning, branching, calling, choosing, control_part, creating, entering_block, entering_loop, increment_of, item_of, item_part, items_part, list_part, printing, purging, target_part, targets_part, testing_condition, trees_in_form, trees_in_item, trees_in_statement, Work, doing, ending}
use Rattle.hep_machine.specs.Words.{element, external, is_array, is_external, listed_meaning, Meaning, pure, state, function_named, no_name, applying, combining, negating, signing, testing}
use Rattle.hep_machine.specs.Evaluation.{reading}
use Rattle.hep_source.specs.declared.statement.Form.TheVariants as form
use Rattle.hep_conditions.specs.Words.{NameWithList, list_of, names_with_lists, names_with_lists_in, names_with_lists_in_all}
use Rattle.hep_accepted_laws.proofs.Members.{Has, has_behind, has_flat, has_front, has_more}
use Rattle.hep_accepted_laws.proofs.Executed.{in_form}
use Rattle.hep_accepted_laws.specs.PartlyEvaluated.{AreActualsFilled, AreEach, AreFilled, Chosen, IsFilled, IsFilledActual, IsFilledControl, IsFilledForm, IsFilledItem, IsFilledTarget, IsValue}
use Rattle.hep_accepted_laws.specs.WorkOrigins.{AreLeft, ComesFrom, IsGivenBy, IsReferredBy}

-- ---- actual arguments as a list

same-trees : (ts : Trees) → trees_of (list_of ts) ≡ ts
same-trees no_trees = refl
same-trees (trees t ts) = ap (trees t) (same-trees ts)

given-by : (unit : List Statement) (ts us : Trees) (actuals : List Actual) → AreActualsFilled unit ts us → actuals_in unit us ≡ whole actuals → IsGivenBy unit (list_of ts) actuals
given-by unit ts us actuals h e = record { filled = list_of us; is_filled = each ts us h; are = ap (actuals_in unit) (same-trees us) ∙ e } where
  each : (ts us : Trees) → AreActualsFilled unit ts us → AreEach (IsFilledActual unit) (list_of ts) (list_of us)
  each no_trees us h = subst (λ vs. AreEach (IsFilledActual unit) [] (list_of vs)) (sym h) tt
  each (trees t ts) us (r, rs, is, h, k) = subst (λ vs. AreEach (IsFilledActual unit) (t ∷ list_of ts) (list_of vs)) (sym is) (h, each ts rs k)

-- ---- a reference in an expression

-- one of these names with lists refers to a function of this name, with its arguments evaluated
pub record IsReferredIn (unit : List Statement) (lists : List NameWithList) (x : Name) (actuals : List Actual) : Type 0 where
  pub reference : NameWithList
  pub there : Has lists reference
  pub name : reference.occurrence.name ≡ x
  pub meaning : listed_meaning unit reference.occurrence.name ≡ external
  pub given : IsGivenBy unit (list_of reference.arguments) actuals

module _ (unit : List Statement) (x : Name) (actuals : List Actual) where
  abbrev sought : {A : Type 0} → Part A
  sought = first_redex (referring x actuals)

  further : (xs ys : List NameWithList) → ((z : NameWithList) → Has xs z → Has ys z) → IsReferredIn unit xs x actuals → IsReferredIn unit ys x actuals
  further xs ys more h = record { reference = h.reference; there = more h.reference h.there; name = h.name; meaning = h.meaning; given = h.given }

  left : (xs ys : List NameWithList) → IsReferredIn unit xs x actuals → IsReferredIn unit (xs ++ ys) x actuals
  left xs ys h = further xs (xs ++ ys) (λ z. has_front xs ys z) h

  right : (xs ys : List NameWithList) → IsReferredIn unit ys x actuals → IsReferredIn unit (xs ++ ys) x actuals
  right xs ys h = further ys (xs ++ ys) (λ z. has_behind xs ys z) h

  inner : (z : NameWithList) (xs : List NameWithList) → IsReferredIn unit xs x actuals → IsReferredIn unit (z ∷ xs) x actuals
  inner z xs h = further xs (z ∷ xs) (λ y. has_more z xs y) h

  -- parts that seek it
  of-redex : {A B : Type 0} (f : A → Redex) (p : Part A) → redex_of {A = A} {B = B} f p ≡ sought → p ≡ sought
  of-redex f (whole y) e = absurd cc
  of-redex f (first_redex r) e = let same : r ≡ referring x actuals = cc in ap (λ r. first_redex r) same

  of-mapped : {A B : Type 0} (f : A → B) (p : Part A) → mapped_part f p ≡ sought → p ≡ sought
  of-mapped f (whole y) e = absurd cc
  of-mapped f (first_redex r) e = let same : r ≡ referring x actuals = cc in ap (λ r. first_redex r) same

  of-both : {A B C : Type 0} (f : A → B → C) (p : Part A) (q : Part B) → then_part f p q ≡ sought → (p ≡ sought) ⊎ (q ≡ sought)
  of-both f (first_redex r) q e = let same : r ≡ referring x actuals = cc in inl (ap (λ r. first_redex r) same)
  of-both f (whole y) (first_redex r) e = let same : r ≡ referring x actuals = cc in inr (ap (λ r. first_redex r) same)
  of-both f (whole y) (whole z) e = absurd cc

  whole-no : {A : Type 0} (y : A) → whole y ≡ sought → ⊥
  whole-no y e = absurd cc

  of-value : (u : Tree) → IsValue u → part_of unit u ≡ sought → ⊥
  of-value u (v, e) s = whole-no v (ap (part_of unit) (sym e) ∙ s)

  by_name : (o : Option Value) (y : Name) → part_of_name o y ≡ sought → ⊥
  by_name None y e = absurd cc
  by_name (Some v) y e = absurd cc

  by_actual_name : (o : Option Value) (y : Name) → actual_of_name o y ≡ sought → ⊥
  by_actual_name None y e = absurd cc
  by_actual_name (Some v) y e = absurd cc

  -- what is no name with a list refers to nothing
  no_list : (r : Tree) (rs : Trees) → ((p : Occurrence) (us : Trees) → r ≡ with_list p us → ⊥) → reference_of unit (trees r rs) ≡ sought → ⊥
  no_list (with_list p us) rs other e = other p us refl
  no_list (occurrence p) no_trees other e = whole-no (p.name, []) e
  no_list (occurrence p) (trees r rs) other e = whole-no (no_name, []) e
  no_list (constant v) rs other e = whole-no (no_name, []) e
  no_list (parenthesized t) rs other e = whole-no (no_name, []) e
  no_list (signed s t) rs other e = whole-no (no_name, []) e
  no_list (negated t) rs other e = whole-no (no_name, []) e
  no_list (binary o a b) rs other e = whole-no (no_name, []) e

  -- a reference itself
  itself : (p : Occurrence) (ts us : Trees) (ys : List Actual) → listed_meaning unit p.name ≡ external → AreActualsFilled unit ts us → actuals_in unit us ≡ whole ys → referring p.name ys ≡ referring x actuals → IsReferredIn unit (record { occurrence = p; arguments = ts } ∷ names_with_lists_in_all ts) x actuals
  itself p ts us ys is h are e =
      let name : p.name ≡ x = cc in
      let same : ys ≡ actuals = cc in
      record {
        reference = record { occurrence = p; arguments = ts };
        there = (zero, refl);
        name = name;
        meaning = is;
        given = given-by unit ts us actuals h (are ∙ ap (λ zs. whole zs) same);
      }

  -- a name with a list, by what it is
  listed : (m : Meaning) (p : Occurrence) (ts us : Trees) → listed_meaning unit p.name ≡ m → Chosen (is_external m) (AreActualsFilled unit ts us) (AreFilled unit ts us)
      → (AreFilled unit ts us → parts_of unit us ≡ sought → IsReferredIn unit (names_with_lists_in_all ts) x actuals) → (AreFilled unit ts us → reference_of unit us ≡ sought → IsReferredIn unit (names_with_lists_in_all ts) x actuals)
      → (AreActualsFilled unit ts us → actuals_in unit us ≡ sought → IsReferredIn unit (names_with_lists_in_all ts) x actuals)
      → part_of_listed m p.name (parts_of unit us) (reference_of unit us) (actuals_in unit us) ≡ sought → IsReferredIn unit (record { occurrence = p; arguments = ts } ∷ names_with_lists_in_all ts) x actuals
  listed element p ts us is h a b c e = inner (record { occurrence = p; arguments = ts }) (names_with_lists_in_all ts) (a h (of-redex (λ subscripts. reading (p.name, subscripts)) (parts_of unit us) e))
  listed (pure f) p ts us is h a b c e = inner (record { occurrence = p; arguments = ts }) (names_with_lists_in_all ts) (a h (of-redex (applying f) (parts_of unit us) e))
  listed (state f) p ts us is h a b c e = inner (record { occurrence = p; arguments = ts }) (names_with_lists_in_all ts) (b h (of-redex (testing f) (reference_of unit us) e))
  listed external p ts us is h a b c e = by_part (actuals_in unit us) refl e where
    by_part : (q : Part (List Actual)) → actuals_in unit us ≡ q → reference_part p.name q ≡ sought → IsReferredIn unit (record { occurrence = p; arguments = ts } ∷ names_with_lists_in_all ts) x actuals
    by_part (whole ys) are e = let same : referring p.name ys ≡ referring x actuals = cc in itself p ts us ys is h are same
    by_part (first_redex r) are e = let same : r ≡ referring x actuals = cc in inner (record { occurrence = p; arguments = ts }) (names_with_lists_in_all ts) (c h (are ∙ ap (λ r. first_redex r) same))

  -- an element that something is asked of
  asked : (p : Occurrence) (ts us rs : Trees) → Chosen (is_external (listed_meaning unit p.name)) (AreActualsFilled unit ts us) (AreFilled unit ts us)
      → (AreFilled unit ts us → parts_of unit us ≡ sought → IsReferredIn unit (names_with_lists_in_all ts) x actuals) → reference_of unit (trees (with_list p us) rs) ≡ sought → IsReferredIn unit (names_with_lists_in_all ts) x actuals
  asked p ts us (trees r rs) h a e = absurd (whole-no (no_name, []) e)
  asked p ts us no_trees h a e = by_meaning (listed_meaning unit p.name) h e where
    by_meaning : (m : Meaning) → Chosen (is_external m) (AreActualsFilled unit ts us) (AreFilled unit ts us) → reference_of_listed m p.name (parts_of unit us) ≡ sought → IsReferredIn unit (names_with_lists_in_all ts) x actuals
    by_meaning element k f = a k (of-mapped (λ subscripts. (p.name, subscripts)) (parts_of unit us) f)
    by_meaning (pure g) k f = absurd (whole-no (no_name, []) f)
    by_meaning (state g) k f = absurd (whole-no (no_name, []) f)
    by_meaning external k f = absurd (whole-no (no_name, []) f)

  -- an actual argument that is a name with a list
  passed : (p : Occurrence) (ts : Trees) (u : Tree) (b : Bool) → is_array unit p.name ≡ b
      → Chosen b ((us : Trees) × (u ≡ with_list p us) × AreFilled unit ts us)
      (((us : Trees) × (u ≡ with_list p us) × Chosen (is_external (listed_meaning unit p.name)) (AreActualsFilled unit ts us) (AreFilled unit ts us)) ⊎ IsValue u)
      → ((us : Trees) → AreFilled unit ts us → parts_of unit us ≡ sought → IsReferredIn unit (names_with_lists_in_all ts) x actuals)
      → ((us : Trees) → AreFilled unit ts us → reference_of unit us ≡ sought → IsReferredIn unit (names_with_lists_in_all ts) x actuals)
      → ((us : Trees) → AreActualsFilled unit ts us → actuals_in unit us ≡ sought → IsReferredIn unit (names_with_lists_in_all ts) x actuals)
      → actual_of unit u ≡ sought → IsReferredIn unit (record { occurrence = p; arguments = ts } ∷ names_with_lists_in_all ts) x actuals
  passed p ts u b kind h a d c e = by_kind b kind h where
    part_by : Meaning → Trees → Part Value
    part_by m us = part_of_listed m p.name (parts_of unit us) (reference_of unit us) (actuals_in unit us)

    actual_by : Meaning → Trees → Part Actual
    actual_by m us = actual_of_listed m p.name (parts_of unit us) (part_by m us)

    at-list : (us : Trees) → u ≡ with_list p us → actual_by (listed_meaning unit p.name) us ≡ sought
    at-list us is = ap (actual_of unit) (sym is) ∙ e

    as_list : (us : Trees) (m : Meaning) → listed_meaning unit p.name ≡ m → Chosen (is_external m) (AreActualsFilled unit ts us) (AreFilled unit ts us) → actual_by m us ≡ sought → IsReferredIn unit (record { occurrence = p; arguments = ts } ∷ names_with_lists_in_all ts) x actuals
    as_list us element is k f = inner (record { occurrence = p; arguments = ts }) (names_with_lists_in_all ts) (a us k (of-mapped (λ subscripts. referred (p.name, subscripts)) (parts_of unit us) f))
    as_list us (pure g) is k f = listed (pure g) p ts us is k (a us) (d us) (c us) (of-mapped evaluated (part_by (pure g) us) f)
    as_list us (state g) is k f = listed (state g) p ts us is k (a us) (d us) (c us) (of-mapped evaluated (part_by (state g) us) f)
    as_list us external is k f = listed external p ts us is k (a us) (d us) (c us) (of-mapped evaluated (part_by external us) f)

    by_kind : (b : Bool) → is_array unit p.name ≡ b → Chosen b ((us : Trees) × (u ≡ with_list p us) × AreFilled unit ts us)
        (((us : Trees) × (u ≡ with_list p us) × Chosen (is_external (listed_meaning unit p.name)) (AreActualsFilled unit ts us) (AreFilled unit ts us)) ⊎ IsValue u) → IsReferredIn unit (record { occurrence = p; arguments = ts } ∷ names_with_lists_in_all ts) x actuals
    by_kind true is (us, same, k) =
        let meaning : listed_meaning unit p.name ≡ element = ap (λ b. if b then element else function_named p.name) is in
        as_list us element meaning k (subst (λ m. actual_by m us ≡ sought) meaning (at-list us same))
    by_kind false is (inl (us, same, k)) = as_list us (listed_meaning unit p.name) refl k (at-list us same)
    by_kind false is (inr (v, same)) = absurd (whole-no (evaluated v) (ap (actual_of unit) (sym same) ∙ e))

  mutual
    pub in-tree : (t u : Tree) → IsFilled unit t u → part_of unit u ≡ sought → IsReferredIn unit (names_with_lists_in t) x actuals
    in-tree (constant v) u h e = absurd (whole-no v (ap (part_of unit) (sym h) ∙ e))
    in-tree (occurrence p) u (inl h) e = absurd (by_name (constant_value unit p.name) p.name (ap (part_of unit) (sym h) ∙ e))
    in-tree (occurrence p) u (inr h) e = absurd (of-value u h e)
    in-tree (with_list p ts) u (inl (us, is, h)) e =
        listed (listed_meaning unit p.name) p ts us refl h (in-trees ts us) (in-asked ts us) (in-actuals ts us) (ap (part_of unit) (sym is) ∙ e)
    in-tree (with_list p ts) u (inr h) e = absurd (of-value u h e)
    in-tree (parenthesized t) u (r, is, h) e = in-tree t r h (ap (part_of unit) (sym is) ∙ e)
    in-tree (signed s t) u (inl (r, is, h)) e = in-tree t r h (of-redex (signing s) (part_of unit r) (ap (part_of unit) (sym is) ∙ e))
    in-tree (signed s t) u (inr h) e = absurd (of-value u h e)
    in-tree (negated t) u (inl (r, is, h)) e = in-tree t r h (of-redex negating (part_of unit r) (ap (part_of unit) (sym is) ∙ e))
    in-tree (negated t) u (inr h) e = absurd (of-value u h e)
    in-tree (binary o a b) u (inl (c, d, is, h, k)) e =
        elim (of-both (λ v w. (v, w)) (part_of unit c) (part_of unit d) (of-redex (combined o) (then_part (λ v w. (v, w)) (part_of unit c) (part_of unit d)) (ap (part_of unit) (sym is) ∙ e))) [
          | inl f ↦ left (names_with_lists_in a) (names_with_lists_in b) (in-tree a c h f)
          | inr f ↦ right (names_with_lists_in a) (names_with_lists_in b) (in-tree b d k f)
        ]
    in-tree (binary o a b) u (inr h) e = absurd (of-value u h e)

    pub in-trees : (ts us : Trees) → AreFilled unit ts us → parts_of unit us ≡ sought → IsReferredIn unit (names_with_lists_in_all ts) x actuals
    in-trees no_trees us h e = absurd (whole-no [] (ap (parts_of unit) (sym h) ∙ e))
    in-trees (trees t ts) us (r, rs, is, h, k) e =
        elim (of-both (λ v vs. v ∷ vs) (part_of unit r) (parts_of unit rs) (ap (parts_of unit) (sym is) ∙ e)) [
          | inl f ↦ left (names_with_lists_in t) (names_with_lists_in_all ts) (in-tree t r h f)
          | inr f ↦ right (names_with_lists_in t) (names_with_lists_in_all ts) (in-trees ts rs k f)
        ]

    -- of what FULL, EMPTY, VALUE, SETE or WAITF is asked of
    in-asked : (ts us : Trees) → AreFilled unit ts us → reference_of unit us ≡ sought → IsReferredIn unit (names_with_lists_in_all ts) x actuals
    in-asked no_trees us h e = absurd (whole-no (no_name, []) (ap (reference_of unit) (sym h) ∙ e))
    in-asked (trees t ts) us (r, rs, is, h, k) e = left (names_with_lists_in t) (names_with_lists_in_all ts) (in-element t r rs h (ap (reference_of unit) (sym is) ∙ e))

    in-element : (t r : Tree) (rs : Trees) → IsFilled unit t r → reference_of unit (trees r rs) ≡ sought → IsReferredIn unit (names_with_lists_in t) x actuals
    in-element (constant v) r rs h e = absurd (no_list r rs (λ p us is. absurd cc) e)
    in-element (occurrence p) r rs (inl h) e = absurd (no_list r rs (λ q us is. absurd cc) e)
    in-element (occurrence p) r rs (inr (v, h)) e = absurd (no_list r rs (λ q us is. absurd cc) e)
    in-element (with_list p ts) r rs (inl (us, is, h)) e =
        inner (record { occurrence = p; arguments = ts }) (names_with_lists_in_all ts) (asked p ts us rs h (in-trees ts us) (ap (λ r. reference_of unit (trees r rs)) (sym is) ∙ e))
    in-element (with_list p ts) r rs (inr (v, h)) e = absurd (no_list r rs (λ q us is. absurd cc) e)
    in-element (parenthesized t) r rs (q, is, h) e = absurd (no_list r rs (λ p us f. absurd cc) e)
    in-element (signed s t) r rs (inl (q, is, h)) e = absurd (no_list r rs (λ p us f. absurd cc) e)
    in-element (signed s t) r rs (inr (v, h)) e = absurd (no_list r rs (λ p us f. absurd cc) e)
    in-element (negated t) r rs (inl (q, is, h)) e = absurd (no_list r rs (λ p us f. absurd cc) e)
    in-element (negated t) r rs (inr (v, h)) e = absurd (no_list r rs (λ p us f. absurd cc) e)
    in-element (binary o a b) r rs (inl (c, d, is, h, k)) e = absurd (no_list r rs (λ p us f. absurd cc) e)
    in-element (binary o a b) r rs (inr (v, h)) e = absurd (no_list r rs (λ p us f. absurd cc) e)

    in-actual : (t u : Tree) → IsFilledActual unit t u → actual_of unit u ≡ sought → IsReferredIn unit (names_with_lists_in t) x actuals
    in-actual (constant v) u h e = absurd (whole-no (evaluated v) (ap (actual_of unit) (sym h) ∙ e))
    in-actual (occurrence p) u h e = absurd (by_actual_name (constant_value unit p.name) p.name (ap (actual_of unit) (sym h) ∙ e))
    in-actual (with_list p ts) u h e = passed p ts u (is_array unit p.name) refl h (in-trees ts) (in-asked ts) (in-actuals ts) e
    in-actual (parenthesized t) u (r, is, h) e = in-tree t r h (of-mapped evaluated (part_of unit r) (ap (actual_of unit) (sym is) ∙ e))
    in-actual (signed s t) u (inl (r, is, h)) e = in-tree t r h (of-redex (signing s) (part_of unit r) (of-mapped evaluated (redex_of (signing s) (part_of unit r)) (ap (actual_of unit) (sym is) ∙ e)))
    in-actual (signed s t) u (inr (v, is)) e = absurd (whole-no (evaluated v) (ap (actual_of unit) (sym is) ∙ e))
    in-actual (negated t) u (inl (r, is, h)) e = in-tree t r h (of-redex negating (part_of unit r) (of-mapped evaluated (redex_of negating (part_of unit r)) (ap (actual_of unit) (sym is) ∙ e)))
    in-actual (negated t) u (inr (v, is)) e = absurd (whole-no (evaluated v) (ap (actual_of unit) (sym is) ∙ e))
    in-actual (binary o a b) u (inl (c, d, is, h, k)) e =
        elim (of-both (λ v w. (v, w)) (part_of unit c) (part_of unit d) (of-redex (combined o) (then_part (λ v w. (v, w)) (part_of unit c) (part_of unit d)) (of-mapped evaluated (redex_of (combined o) (then_part (λ v w. (v, w)) (part_of unit c) (part_of unit d))) (ap (actual_of unit) (sym is) ∙ e)))) [
          | inl f ↦ left (names_with_lists_in a) (names_with_lists_in b) (in-tree a c h f)
          | inr f ↦ right (names_with_lists_in a) (names_with_lists_in b) (in-tree b d k f)
        ]
    in-actual (binary o a b) u (inr (v, is)) e = absurd (whole-no (evaluated v) (ap (actual_of unit) (sym is) ∙ e))

    pub in-actuals : (ts us : Trees) → AreActualsFilled unit ts us → actuals_in unit us ≡ sought → IsReferredIn unit (names_with_lists_in_all ts) x actuals
    in-actuals no_trees us h e = absurd (whole-no [] (ap (actuals_in unit) (sym h) ∙ e))
    in-actuals (trees t ts) us (r, rs, is, h, k) e =
        elim (of-both (λ y ys. y ∷ ys) (actual_of unit r) (actuals_in unit rs) (ap (actuals_in unit) (sym is) ∙ e)) [
          | inl f ↦ left (names_with_lists_in t) (names_with_lists_in_all ts) (in-actual t r h f)
          | inr f ↦ right (names_with_lists_in t) (names_with_lists_in_all ts) (in-actuals ts rs k f)
        ]

  -- ---- a reference in a statement

  -- one of these expressions has it
  abbrev pub IsReferredAmong : List Tree → Type 0
  IsReferredAmong ts = (t : Tree) × Has ts t × IsReferredIn unit (names_with_lists_in t) x actuals

  among-more : (ts us : List Tree) → ((t : Tree) → Has ts t → Has us t) → IsReferredAmong ts → IsReferredAmong us
  among-more ts us more h = (h.0, more h.0 h.1, h.2)

  in-list : (ts us : List Tree) → AreEach (IsFilled unit) ts us → list_part unit us ≡ sought → IsReferredAmong ts
  in-list [] [] h e = absurd (whole-no [] e)
  in-list [] (u ∷ us) h e = absurd h
  in-list (t ∷ ts) [] h e = absurd h
  in-list (t ∷ ts) (u ∷ us) h e =
      elim (of-both (λ v vs. v ∷ vs) (part_of unit u) (list_part unit us) e) [
        | inl f ↦ (t, (zero, refl), in-tree t u h.0 f)
        | inr f ↦ among-more ts (t ∷ ts) (λ r. has_more t ts r) (in-list ts us h.1 f)
      ]

  in-actual-list : (ts us : List Tree) → AreEach (IsFilledActual unit) ts us → actuals_of unit us ≡ sought → IsReferredAmong ts
  in-actual-list [] [] h e = absurd (whole-no [] e)
  in-actual-list [] (u ∷ us) h e = absurd h
  in-actual-list (t ∷ ts) [] h e = absurd h
  in-actual-list (t ∷ ts) (u ∷ us) h e =
      elim (of-both (λ y ys. y ∷ ys) (actual_of unit u) (actuals_of unit us) e) [
        | inl f ↦ (t, (zero, refl), in-actual t u h.0 f)
        | inr f ↦ among-more ts (t ∷ ts) (λ r. has_more t ts r) (in-actual-list ts us h.1 f)
      ]

  in-target : (t u : Target) → IsFilledTarget unit t u → target_part unit u ≡ sought → IsReferredAmong t.subscripts
  in-target t u h e = in-list t.subscripts u.subscripts h.1 (of-mapped (λ vs. (u.occurrence.name, vs)) (list_part unit u.subscripts) e)

  abbrev subscripts_in : List Target → List Tree
  subscripts_in targets = flat_map (λ (t : Target). t.subscripts) targets

  in-targets : (ts us : List Target) → AreEach (IsFilledTarget unit) ts us → targets_part unit us ≡ sought → IsReferredAmong (subscripts_in ts)
  in-targets [] [] h e = absurd (whole-no [] e)
  in-targets [] (u ∷ us) h e = absurd h
  in-targets (t ∷ ts) [] h e = absurd h
  in-targets (t ∷ ts) (u ∷ us) h e =
      elim (of-both (λ r rs. r ∷ rs) (target_part unit u) (targets_part unit us) e) [
        | inl f ↦ among-more t.subscripts (t.subscripts ++ subscripts_in ts) (λ r. has_front t.subscripts (subscripts_in ts) r) (in-target t u h.0 f)
        | inr f ↦ among-more (subscripts_in ts) (t.subscripts ++ subscripts_in ts) (λ r. has_behind t.subscripts (subscripts_in ts) r) (in-targets ts us h.1 f)
      ]

  in-item : (i j : PrintItem) → IsFilledItem unit i j → item_part unit j ≡ sought → IsReferredAmong (trees_in_item i)
  in-item (Expression t) j (u, is, h) e = (t, (zero, refl), in-tree t u h (of-mapped item_of (part_of unit u) (ap (item_part unit) (sym is) ∙ e)))
  in-item (Characters cs) j is e = absurd (whole-no _ (ap (item_part unit) (sym is) ∙ e))

  in-items : (is js : List PrintItem) → AreEach (IsFilledItem unit) is js → items_part unit js ≡ sought → IsReferredAmong (flat_map trees_in_item is)
  in-items [] [] h e = absurd (whole-no [] e)
  in-items [] (j ∷ js) h e = absurd h
  in-items (i ∷ is) [] h e = absurd h
  in-items (i ∷ is) (j ∷ js) h e =
      elim (of-both (λ y ys. y ∷ ys) (item_part unit j) (items_part unit js) e) [
        | inl f ↦ among-more (trees_in_item i) (trees_in_item i ++ flat_map trees_in_item is) (λ r. has_front (trees_in_item i) (flat_map trees_in_item is) r) (in-item i j h.0 f)
        | inr f ↦ among-more (flat_map trees_in_item is) (trees_in_item i ++ flat_map trees_in_item is) (λ r. has_behind (trees_in_item i) (flat_map trees_in_item is) r) (in-items is js h.1 f)
      ]

  in-increment : (o : Option Tree) (u : Tree) → IsFilled unit (increment_of o) u → part_of unit u ≡ sought → IsReferredAmong (option_to_list o)
  in-increment None u h e = absurd (whole-no _ (ap (part_of unit) (sym h) ∙ e))
  in-increment (Some t) u h e = (t, (zero, refl), in-tree t u h e)

  in-control : (c d : DoControl) → IsFilledControl unit c d → control_part unit d ≡ sought → IsReferredAmong (c.initial ∷ c.limit ∷ option_to_list c.increment)
  in-control c d h e =
      elim (of-both (λ m (rest_after : Value × Value). (m, rest_after.0, rest_after.1)) (part_of unit d.initial) (then_part (λ m n. (m, n)) (part_of unit d.limit) (part_of unit (increment_of d.increment))) e) [
        | inl f ↦ (c.initial, (zero, refl), in-tree c.initial d.initial h.initial f)
        | inr f ↦ elim (of-both (λ m n. (m, n)) (part_of unit d.limit) (part_of unit (increment_of d.increment)) f) [
          | inl g ↦ (c.limit, (suc zero, refl), in-tree c.limit d.limit h.limit g)
          | inr g ↦ among-more (option_to_list c.increment) (c.initial ∷ c.limit ∷ option_to_list c.increment) (λ r k. (suc (suc k.0), k.1)) (in-increment c.increment (increment_of d.increment) h.increment g)
        ]
      ]

  abbrev Wanted : Next → Type 0
  Wanted n = n ≡ wants (referring x actuals)

  of-next : {A : Type 0} (f : A → Action) (p : Part A) → Wanted (next_by f p) → p ≡ sought
  of-next f (whole y) e = absurd cc
  of-next f (first_redex r) e = let same : r ≡ referring x actuals = cc in ap (λ r. first_redex r) same

  in-form : (f g : Form) → IsFilledForm unit f g → Wanted (next_of_form unit g) → IsReferredAmong (trees_in_form f)
  in-form (form.Assign z t) g (y, u, is, h, k) e =
      elim (of-both (λ v r. (v, r)) (part_of unit u) (target_part unit y) (of-next (λ (both : Value × Reference). assigning both.1 both.0) (then_part (λ v r. (v, r)) (part_of unit u) (target_part unit y)) (ap (next_of_form unit) (sym is) ∙ e))) [
        | inl f ↦ (t, has_behind z.subscripts (t ∷ []) t (zero, refl), in-tree t u k f)
        | inr f ↦ among-more z.subscripts (z.subscripts ++ t ∷ []) (λ r. has_front z.subscripts (t ∷ []) r) (in-target z y h f)
      ]
  in-form (form.ComputedGoTo labels t) g (u, is, h) e = (t, (zero, refl), in-tree t u h (of-next (choosing labels) (part_of unit u) (ap (next_of_form unit) (sym is) ∙ e)))
  in-form (form.ArithmeticIf t labels) g (u, is, h) e = (t, (zero, refl), in-tree t u h (of-next (branching labels) (part_of unit u) (ap (next_of_form unit) (sym is) ∙ e)))
  in-form (form.IfThen t) g (u, is, h) e = (t, (zero, refl), in-tree t u h (of-next entering_block (part_of unit u) (ap (next_of_form unit) (sym is) ∙ e)))
  in-form (form.ElseIf t) g (u, is, h) e = (t, (zero, refl), in-tree t u h (of-next entering_block (part_of unit u) (ap (next_of_form unit) (sym is) ∙ e)))
  in-form (form.Do c) g (d, is, h) e =
      in-control c d h (of-next (λ (m : Value × Value × Value). entering_loop d.variable.name m.0 m.1 m.2) (control_part unit d) (ap (next_of_form unit) (sym is) ∙ e))
  in-form (form.Call p ts) g (us, is, h) e = in-actual-list ts us h (of-next (calling p.name) (actuals_of unit us) (ap (next_of_form unit) (sym is) ∙ e))
  in-form (form.Create p ts) g (us, is, h) e = in-actual-list ts us h (of-next (creating p.name) (actuals_of unit us) (ap (next_of_form unit) (sym is) ∙ e))
  in-form (form.Purge targets) g (us, is, h) e = in-targets targets us h (of-next purging (targets_part unit us) (ap (next_of_form unit) (sym is) ∙ e))
  in-form (form.Print items) g (js, is, h) e = in-items items js h (of-next printing (items_part unit js) (ap (next_of_form unit) (sym is) ∙ e))
  in-form _ g is e = let stays = ap (next_of_form unit) (sym is) ∙ e in absurd cc

  has-drop : (n : ℕ) (ts : List Tree) (t : Tree) → Has (drop n ts) t → Has ts t
  has-drop zero ts t h = h
  has-drop (suc n) [] t h = h
  has-drop (suc n) (r ∷ rs) t h = has_more r rs t (has-drop n rs t h)

  in-conditions : (conditions : List Tree) (t : Tree) (ts : List Tree) → AreLeft unit conditions (t ∷ ts) → part_of unit t ≡ sought → IsReferredAmong conditions
  in-conditions conditions t ts h e = by_first (drop h.0 conditions) refl h.1 where
    by_first : (cs : List Tree) → drop h.0 conditions ≡ cs → AreEach (IsFilled unit) cs (t ∷ ts) → IsReferredAmong conditions
    by_first [] is k = absurd k
    by_first (c ∷ cs) is k = (c, has-drop h.0 conditions c (subst (λ ds. Has ds c) (sym is) (zero, refl)), in-tree c t k.0 e)

  module _ (k : ℕ) where
    in-statement : (o : Option Statement) → slice_get unit k ≡ o → IsReferredAmong (trees_in_statement (unwrap_or o no_statement)) → IsReferredBy unit k x actuals
    in-statement None is h = absurd (none-some h.0 (h.1).1)
    in-statement (Some s) is (t, there, h) =
        let among = has_flat names_with_lists_in (trees_in_statement s) t h.reference there h.there in
        record { statement = s; reference = h.reference; there = is; index = among.0; among = among.1; meaning = h.meaning; name = h.name; given = h.given }

    pub comes-reference : (work : Work) → ComesFrom unit k work → Wanted (next_of unit work) → IsReferredBy unit k x actuals
    comes-reference (doing [] f) h e =
        in-statement (slice_get unit k) refl (
        among-more (trees_in_form (statement_at unit k).form) (trees_in_statement (statement_at unit k)) (λ t. in_form (statement_at unit k) t) (in-form (statement_at unit k).form f h.1 e))
    comes-reference (doing (t ∷ ts) f) h e =
        in-statement (slice_get unit k) refl (
        among-more (statement_at unit k).conditions (trees_in_statement (statement_at unit k)) (λ r. has_front (statement_at unit k).conditions _ r) (
        in-conditions (statement_at unit k).conditions t ts h.0 (of-next testing_condition (part_of unit t) e)))
    comes-reference (ending d) h e = absurd cc
