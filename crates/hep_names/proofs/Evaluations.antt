-- What one walk over an expression tells of its parts.
use Rattle.std.proofs.Common.{◌≡◌, Bool, true, false, not, ◌&&◌, ◌||◌, Option, Some, None, List, [], ◌∷◌, ◌++◌, append_assoc, append-nil, is_some, refl, ap, sym, ◌∙◌, if◌then◌else◌}
use Rattle.std.specs.List.{list_all, list_any}
use Rattle.std.proofs.lemmas.List.Folds.{list_any-append, list_all-append}
use Rattle.hep_machine.specs.Words.{Tree, Trees, binary, with_list, trees, Name, Occurrence, Operator, Statement, Value, is_among, combined_value, Constants, both, by_meaning, value_of, value_among, with_two, is_array, Meaning, element, pure, state, external, occurrences_in, occurrences_in_all, array_occurrence}
use Rattle.hep_conditions.specs.Words.{Parameters, is_open, has_value_or_is_open, is_counted, NameWithList, names_with_lists_in, names_with_lists_in_all, subexpressions_of, subexpressions_of_all}
use Rattle.hep_names.specs.Evaluation.{parameters, with_last, values_after, applied, is_any_open, are_parts_known, are_all_parts_known}

-- ---- what is open

apart : (a b c d : Bool) → ((a || b) || not (c && d)) ≡ ((a || not c) || (b || not d))
apart true b c d = refl
apart false true true d = refl
apart false true false d = refl
apart false false true d = refl
apart false false false d = refl

module _ (unit : List Statement) (ps : Parameters) where
  open-apart : (ps1 ps2 : List Occurrence) (rs1 rs2 : List NameWithList)
      → (list_any (λ (p : Occurrence). is_among p.name ps.doubtful) (ps1 ++ ps2) || not (list_all (is_counted unit) (rs1 ++ rs2)))
      ≡ ((list_any (λ (p : Occurrence). is_among p.name ps.doubtful) ps1 || not (list_all (is_counted unit) rs1)) || (list_any (λ (p : Occurrence). is_among p.name ps.doubtful) ps2 || not (list_all (is_counted unit) rs2)))
  open-apart ps1 ps2 rs1 rs2 =
      rw (list_any-append (λ (p : Occurrence). is_among p.name ps.doubtful) ps1 ps2, list_all-append (is_counted unit) rs1 rs2)
      (apart (list_any (λ (p : Occurrence). is_among p.name ps.doubtful) ps1) (list_any (λ (p : Occurrence). is_among p.name ps.doubtful) ps2) (list_all (is_counted unit) rs1) (list_all (is_counted unit) rs2))

  pub binary_open : (o : Operator) (a b : Tree) → is_open unit ps (binary o a b) ≡ (is_open unit ps a || is_open unit ps b)
  binary_open o a b = open-apart (occurrences_in unit a) (occurrences_in unit b) (names_with_lists_in a) (names_with_lists_in b)

  pub row_open : (t : Tree) (ts : Trees) → is_any_open unit ps (trees t ts) ≡ (is_open unit ps t || is_any_open unit ps ts)
  row_open t ts = open-apart (occurrences_in unit t) (occurrences_in_all unit ts) (names_with_lists_in t) (names_with_lists_in_all ts)

  pub listed_open : (p : Occurrence) (ts : Trees)
      → is_open unit ps (with_list p ts) ≡ ((is_array unit p.name && is_among p.name ps.doubtful) || (not (is_counted unit (record { occurrence = p; arguments = ts })) || is_any_open unit ps ts))
  listed_open p ts =
      open-apart (array_occurrence unit p) (occurrences_in_all unit ts) (record { occurrence = p; arguments = ts } ∷ []) (names_with_lists_in_all ts)
      ∙ (ap (λ b. (b || not (is_counted unit (record { occurrence = p; arguments = ts }) && true)) || is_any_open unit ps ts) (one (is_array unit p.name))
      ∙ regrouped (is_array unit p.name && is_among p.name ps.doubtful) (is_counted unit (record { occurrence = p; arguments = ts })) (is_any_open unit ps ts))
    where
      or-false : (b : Bool) → (b || false) ≡ b
      or-false true = refl
      or-false false = refl

      one : (a : Bool) → list_any (λ (q : Occurrence). is_among q.name ps.doubtful) (if a then p ∷ [] else []) ≡ (a && is_among p.name ps.doubtful)
      one true = or-false (is_among p.name ps.doubtful)
      one false = refl

      regrouped : (e c r : Bool) → ((e || not (c && true)) || r) ≡ (e || (not c || r))
      regrouped true c r = refl
      regrouped false true r = refl
      regrouped false false r = refl

  -- ---- what has a value

  pub binary_parts : (o : Operator) (a b : Tree)
      → are_parts_known unit ps (binary o a b) ≡ (has_value_or_is_open unit ps (binary o a b) && (are_parts_known unit ps a && are_parts_known unit ps b))
  binary_parts o a b = ap (λ k. has_value_or_is_open unit ps (binary o a b) && k) (list_all-append (has_value_or_is_open unit ps) (subexpressions_of a) (subexpressions_of b))

  pub row_parts : (t : Tree) (ts : Trees) → are_all_parts_known unit ps (trees t ts) ≡ (are_parts_known unit ps t && are_all_parts_known unit ps ts)
  row_parts t ts = list_all-append (has_value_or_is_open unit ps) (subexpressions_of t) (subexpressions_of_all ts)

pub two-known : (unit : List Statement) (k : Constants) (d : List Name) (o : Operator) (a b : Tree) (v w z : Option Value) (p q x y : Bool)
    → z ≡ with_two (combined_value o) v w → v ≡ value_of unit (value_among k) a → w ≡ value_of unit (value_among k) b
    → p ≡ is_open unit (parameters k d) a → q ≡ is_open unit (parameters k d) b → x ≡ are_parts_known unit (parameters k d) a → y ≡ are_parts_known unit (parameters k d) b
    → (((p || q) || is_some z) && (x && y)) ≡ are_parts_known unit (parameters k d) (binary o a b)
two-known unit k d o a b v w z p q x y hz hv hw hp hq hx hy =
    ap (λ c. ((c || q) || is_some z) && (x && y)) hp
    ∙ (ap (λ c. ((is_open unit (parameters k d) a || c) || is_some z) && (x && y)) hq
    ∙ (ap (λ c. (c || is_some z) && (x && y)) (sym (binary_open unit (parameters k d) o a b))
    ∙ (ap (λ c. (is_open unit (parameters k d) (binary o a b) || is_some c) && (x && y)) (hz ∙ (ap (λ u. with_two (combined_value o) u w) hv ∙ ap (with_two (combined_value o) (value_of unit (value_among k) a)) hw))
    ∙ (ap (λ c. has_value_or_is_open unit (parameters k d) (binary o a b) && (c && y)) hx
    ∙ (ap (λ c. has_value_or_is_open unit (parameters k d) (binary o a b) && (are_parts_known unit (parameters k d) a && c)) hy ∙ sym (binary_parts unit (parameters k d) o a b))))))

-- ---- values in a row

pub one_more : (ws : Option (List Value)) (v : Option Value) (vs : Option (List Value)) → values_after (with_last ws v) vs ≡ values_after ws (both v vs)
one_more None v vs = refl
one_more (Some ws) None vs = refl
one_more (Some ws) (Some v) None = refl
one_more (Some ws) (Some v) (Some vs) = ap Some (simp append_assoc)

pub no_more : (ws : Option (List Value)) → values_after ws (Some []) ≡ ws
no_more None = refl
no_more (Some ws) = ap Some (append-nil ws)

pub applied_is : (m : Meaning) (vs : Option (List Value)) → applied m (values_after (Some []) vs) ≡ by_meaning m vs
applied_is element vs = refl
applied_is (pure f) None = refl
applied_is (pure f) (Some vs) = refl
applied_is (state f) vs = refl
applied_is external vs = refl
