-- Where labels lead, statement by statement, and what is reported of them: 306.
use Rattle.std.proofs.Common.{◌≡◌, ℕ, suc, ◌+◌, Bool, true, false, ◌&&◌, nat_eq, if◌then◌else◌, Option, Some, None, List, [], ◌∷◌, refl, ◌∙◌, sym, ap, arith, length, ◌<◌, IfSome, ◌||◌, ◌++◌, map, option_to_list, append_assoc}
use Rattle.std.specs.Option.{option_map}
use Rattle.hep_machine.specs.Words.{Statement, is_executable, has_label, is_labelled, index_labelled}
use Rattle.hep_control.specs.Labels.{executable_label, noted, is_absent, goes_nowhere, is_seen, with_seen, lines_from}
use Rattle.std.specs.List.{flat_map, list_any}
use Rattle.hep_conditions.specs.Words.{Violations, unlabelled, labels_of, label_violations, targets_of_jump, terminal_labels, when, at_line, repeated_after, repeated_by, line_when}
use Rattle.std.proofs.lemmas.List.Folds.{list_any-append}
use Rattle.hep_source.proofs.Tests.{any-flat, or-assoc, or-true, any-same, any-and}
use Rattle.hep_control.proofs.Sets.{any-line, any-when, line_passes, told-when}

-- where a label leads from statement `index` on, if it wasn't met before
abbrev pub index_from : Option ℕ → ℕ → List Statement → ℕ → Option ℕ
index_from (Some k) index ss l = Some k
index_from None index ss l = option_map (λ k. index + k) (index_labelled ss l)

later : (index : ℕ) (o : Option ℕ) → option_map (λ k. index + k) (option_map suc o) ≡ option_map (λ k. index + 1 + k) o
later index None = refl
later index (Some k) = ap (λ n. Some n) (omega arith)

labelled : (l : ℕ) (s : Statement) → is_labelled l s ≡ has_label l (executable_label s)
labelled l s = by (is_executable s.form)
  where
    by : (b : Bool) → (b && has_label l s.label) ≡ has_label l (if b then s.label else None)
    by true = refl
    by false = refl

first-here : (index : ℕ) (s : Statement) (ss : List Statement) (l : ℕ)
    → index_from None index (s ∷ ss) l ≡ (if has_label l (executable_label s) then Some index else index_from None (index + 1) ss l)
first-here index s ss l = ap (λ b. option_map (λ k. index + k) (if b then Some 0 else option_map suc (index_labelled ss l))) (labelled l s) ∙ by (has_label l (executable_label s))
  where
    by : (b : Bool) → option_map (λ k. index + k) (if b then Some 0 else option_map suc (index_labelled ss l)) ≡ (if b then Some index else option_map (λ k. index + 1 + k) (index_labelled ss l))
    by true = ap (λ n. Some n) (omega arith)
    by false = later index (index_labelled ss l)

-- a statement without a label that one may go to
pub passed : (o : Option ℕ) (index : ℕ) (s : Statement) (ss : List Statement) (l : ℕ) → executable_label s ≡ None
    → index_from o (index + 1) ss l ≡ index_from o index (s ∷ ss) l
passed (Some k) index s ss l h = refl
passed None index s ss l h = sym (first-here index s ss l ∙ ap (λ e. if has_label l e then Some index else index_from None (index + 1) ss l) h)

-- a statement with one
pub met : (o : Option ℕ) (index : ℕ) (s : Statement) (ss : List Statement) (l label : ℕ) → executable_label s ≡ Some label
    → index_from (noted o (nat_eq label l) index) (index + 1) ss l ≡ index_from o index (s ∷ ss) l
met (Some k) index s ss l label h = refl
met None index s ss l label h =
    by (nat_eq label l) ∙ sym (first-here index s ss l ∙ ap (λ e. if has_label l e then Some index else index_from None (index + 1) ss l) h)
  where
    by : (b : Bool) → index_from (if b then Some index else None) (index + 1) ss l ≡ (if b then Some index else index_from None (index + 1) ss l)
    by true = refl
    by false = refl

below_suc : (o : Option ℕ) (n : ℕ) → IfSome o (λ k. k < n) → IfSome (option_map suc o) (λ k. k < suc n)
below_suc None n h = tt
below_suc (Some k) n h = omega (arith, h)

-- a statement that a label leads to is one of the unit
pub index_labelled-below : (ss : List Statement) (l : ℕ) → IfSome (index_labelled ss l) (λ k. k < length ss)
index_labelled-below [] l = tt
index_labelled-below (s ∷ ss) l = by (is_labelled l s) (index_labelled-below ss l)
  where
    by : (b : Bool) → IfSome (index_labelled ss l) (λ k. k < length ss)
        → IfSome (if b then Some 0 else option_map suc (index_labelled ss l)) (λ k. k < suc (length ss))
    by true h = omega arith
    by false h = below_suc (index_labelled ss l) (length ss) h

-- ---- all lines

-- one statement more
pub labels-next : (unit : List Statement) (seen later : ℕ → Bool) (found one two whole : List ℕ) (s : Statement) (ss xs : List Statement)
    → ((l : ℕ) → later l ≡ with_seen seen s.label l) → xs ≡ s ∷ ss → found ++ lines_from unit seen xs ≡ whole
    → one ≡ found ++ option_to_list (line_when (is_seen seen s.label) s.line) → two ≡ one ++ option_to_list (line_when (goes_nowhere unit s) s.line)
    → two ++ lines_from unit later ss ≡ whole
labels-next unit seen later found one two whole s ss xs h d k a b =
    let here = option_to_list (line_when (is_seen seen s.label) s.line) in
    let there = option_to_list (line_when (goes_nowhere unit s) s.line) in
    let rest = lines_from unit (with_seen seen s.label) ss in
    let both : two ≡ (found ++ here) ++ there = b ∙ ap (λ ls. ls ++ there) a in
    (λ i. both i ++ lines_from unit (λ l. h l i) ss)
    ∙ (append_assoc (found ++ here) there rest
    ∙ (append_assoc found here (there ++ rest)
    ∙ (ap (λ ys. found ++ lines_from unit seen ys) (sym d) ∙ k)))

shuffled : (a b u r : Bool) → (a || (b || (u || r))) ≡ ((b || u) || (a || r))
shuffled true b u r = sym (or-true (b || u))
shuffled false true u r = refl
shuffled false false u r = refl

module _ (unit : List Statement) (test : ℕ → Bool) where
  abbrev nowhere : Statement → Violations
  nowhere s = flat_map (λ l. when (is_absent unit l) (at_line 306 s.line)) (targets_of_jump s.form ++ terminal_labels s.form)

  abbrev found_in : Violations → Bool
  found_in vs = list_any (line_passes test) vs

  nowhere-told : (s : Statement) → list_any test (option_to_list (line_when (goes_nowhere unit s) s.line)) ≡ found_in (nowhere s)
  nowhere-told s =
      let labels = targets_of_jump s.form ++ terminal_labels s.form in
      any-line test (goes_nowhere unit s) s.line
      ∙ sym
      (any-flat (line_passes test) (λ l. when (is_absent unit l) (at_line 306 s.line)) labels
      ∙ (any-same (λ l. found_in (when (is_absent unit l) (at_line 306 s.line))) (λ l. is_absent unit l && test s.line) (λ l. any-when test 306 s.line (is_absent unit l)) labels
      ∙ any-and (is_absent unit) (test s.line) labels))

  from-told : (before : List ℕ) (ss : List Statement)
      → list_any test (lines_from unit (λ l. list_any (nat_eq l) before) ss) ≡ (found_in (flat_map nowhere ss) || found_in (repeated_after 306 nat_eq before (labels_of ss)))
  from-told before [] = refl
  from-told before (s ∷ ss) = by s.label (from-told before ss) (λ l. from-told (l ∷ before) ss)
    where
      by : (o : Option ℕ)
          → list_any test (lines_from unit (λ l. list_any (nat_eq l) before) ss) ≡ (found_in (flat_map nowhere ss) || found_in (repeated_after 306 nat_eq before (labels_of ss)))
          → ((l : ℕ) → list_any test (lines_from unit (λ k. list_any (nat_eq k) (l ∷ before)) ss) ≡ (found_in (flat_map nowhere ss) || found_in (repeated_after 306 nat_eq (l ∷ before) (labels_of ss))))
          → list_any test (option_to_list (line_when (is_seen (λ l. list_any (nat_eq l) before) o) s.line)
          ++ (option_to_list (line_when (goes_nowhere unit s) s.line) ++ lines_from unit (with_seen (λ l. list_any (nat_eq l) before) o) ss))
          ≡ (found_in (nowhere s ++ flat_map nowhere ss) || found_in (repeated_after 306 nat_eq before (map (λ l. (l, s.line)) (option_to_list o) ++ labels_of ss)))
      by None without with_label =
          let rest = lines_from unit (λ l. list_any (nat_eq l) before) ss in
          let more = found_in (repeated_after 306 nat_eq before (labels_of ss)) in
          list_any-append test (option_to_list (line_when (goes_nowhere unit s) s.line)) rest
          ∙ ((λ i. nowhere-told s i || without i)
          ∙ (sym (or-assoc (found_in (nowhere s)) (found_in (flat_map nowhere ss)) more)
          ∙ ap (λ b. b || more) (sym (list_any-append (line_passes test) (nowhere s) (flat_map nowhere ss)))))
      by (Some l) without with_label =
          let here = option_to_list (line_when (list_any (nat_eq l) before) s.line) in
          let next = option_to_list (line_when (goes_nowhere unit s) s.line) in
          let rest = lines_from unit (λ k. list_any (nat_eq k) (l ∷ before)) ss in
          let again = when (list_any (nat_eq l) before) (at_line 306 s.line) in
          let more = repeated_after 306 nat_eq (l ∷ before) (labels_of ss) in
          list_any-append test here (next ++ rest)
          ∙ (ap (λ b. list_any test here || b) (list_any-append test next rest)
          ∙ ((λ i. told-when test 306 s.line (list_any (nat_eq l) before) i || (nowhere-told s i || with_label l i))
          ∙ (shuffled (found_in again) (found_in (nowhere s)) (found_in (flat_map nowhere ss)) (found_in more)
          ∙ (λ i. sym (list_any-append (line_passes test) (nowhere s) (flat_map nowhere ss)) i || sym (list_any-append (line_passes test) again more) i))))

  pub labels-told : list_any test (lines_from unit (λ l. false) unit) ≡ list_any (line_passes test) (label_violations unit)
  labels-told = from-told [] unit ∙ sym (list_any-append (line_passes test) (unlabelled unit) (repeated_by 306 nat_eq (labels_of unit)))
