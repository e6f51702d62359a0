-- The line that is reported of DATA, statement by statement, and the loops that find it.
use Rattle.std.proofs.Common.{◌≡◌, Bool, not, ◌&&◌, ◌||◌, List, [], ◌∷◌, ◌++◌, is_some, refl, ap, sym, ◌∙◌, ◌<◌, ◌≤◌, ◌+◌, ℕ, take, drop, length, get_or, true, false, append-nil, append_assoc, subst, option_to_list}
use Rattle.std.specs.List.{flat_map, list_any}
use Rattle.std.specs.Option.{option_map}
use Rattle.std.proofs.lemmas.List.{take_more, drop_all}
use Rattle.std.proofs.lemmas.Grind.{flat_map-append}
use Rattle.std.proofs.lemmas.List.Folds.{list_any-append}
use Rattle.hep_conditions.specs.declared.violation.Violation.{Violation}
use Rattle.hep_machine.specs.Words.{trees_of, DataGroup, DataValue, Target, Statement, Constants, value_among, given_by, values_of, constant_shape, Stretch, groups_in, elements_named, repeat_of, value_of_constant, values_given, is_nonempty, is_array, constants_in}
use Rattle.hep_conditions.specs.Words.{name_repeated, known_targets, known_values, has_type, is_forbidden, is_outside, is_target_outside, is_value, is_wrong_group, is_misplaced, wrong_groups_from, share_element, elements_in, is_given_twice, given_twice_from, data_violations, known_before, same_length, holds_at_each_place, line_when, at_line, when}
use Rattle.hep_names.proofs.ConstantsInOrder.{given-same}
use Rattle.hep_storage.specs.InitializedElements.{given_after, IsGiven, Gives}
use Rattle.hep_storage.specs.DataGroups.{is_wrong, data_lines}
use Rattle.hep_source.proofs.Tests.{or-assoc, or-false, or-turned, or-swapped, and-split}
use Rattle.hep_storage.specs.declared.initialized_elements.InitializedElements.{InitializedElements}

-- ---- constants that are the same for each name

module _ (unit : List Statement) (k m : Constants) (h : value_among k ≡ value_among m) where
  targets-same : (ts : List Target) → known_targets unit k ts ≡ known_targets unit m ts
  targets-same [] = refl
  targets-same (t ∷ ts) = λ i. known_before (option_map name_repeated (elements_named unit (h i) t)) (targets-same ts i)

  values-same : (vs : List DataValue) → known_values k vs ≡ known_values m vs
  values-same [] = refl
  values-same (v ∷ vs) = λ i. known_before (values_given (h i) v) (values-same vs i)

  outside-same : (t : Target) → is_target_outside unit k t ≡ is_target_outside unit m t
  outside-same t = λ i. is_nonempty t.subscripts && (is_array unit t.occurrence.name && is_outside (constant_shape unit t.occurrence.name) (values_of unit (h i) (trees_of t.subscripts)))

  value-same : (v : DataValue) → is_value k v ≡ is_value m v
  value-same v = λ i. is_some (repeat_of (h i) v.repeat) && is_some (value_of_constant (h i) v.constant)

  group-same : (g : DataGroup) → is_wrong_group unit k g ≡ is_wrong_group unit m g
  group-same g = λ i.
      list_any (λ (t : Target). is_forbidden unit t.occurrence.name || outside-same t i) g.targets
      || (list_any (λ (v : DataValue). not (value-same v i)) g.values
      || (not (same_length (targets-same g.targets i) (values-same g.values i))
      || not (holds_at_each_place (has_type unit) (targets-same g.targets i).items (values-same g.values i).items)))

  wrong-here-same : (s : Statement) → is_wrong unit k s ≡ is_wrong unit m s
  wrong-here-same s = λ i. is_misplaced unit s || list_any (λ (g : DataGroup). group-same g i) (groups_in s.form)

  pub elements-same : (s : Statement) → elements_in unit k s ≡ elements_in unit m s
  elements-same s = λ i. flat_map (λ (g : DataGroup). flat_map (λ (t : Target). option_to_list (elements_named unit (h i) t)) g.targets) (groups_in s.form)

-- ---- the order of what was given values before doesn't matter

any-between : {A : Type 0} (test : A → Bool) (x : A) (xs ys : List A) → list_any test (xs ++ x ∷ ys) ≡ (test x || list_any test (xs ++ ys))
any-between test x [] ys = refl
any-between test x (z ∷ zs) ys = ap (λ b. test z || b) (any-between test x zs ys) ∙ or-turned (test z) (test x) (list_any test (zs ++ ys))

pub any-after : (test : Stretch → Bool) (given es : List Stretch) → list_any test (given_after given es) ≡ list_any test (es ++ given)
any-after test given [] = refl
any-after test given (e ∷ es) = any-after test (e ∷ given) es ∙ any-between test e es given

pub after-append : (given es fs : List Stretch) → given_after given (es ++ fs) ≡ given_after (given_after given es) fs
after-append given [] fs = refl
after-append given (e ∷ es) fs = after-append (e ∷ given) es fs

pub twice-append : (given es fs : List Stretch) → is_given_twice given (es ++ fs) ≡ (is_given_twice given es || is_given_twice (given_after given es) fs)
twice-append given [] fs = refl
twice-append given (e ∷ es) fs =
    ap (λ b. list_any (share_element e) given || b) (twice-append (e ∷ given) es fs)
    ∙ sym (or-assoc (list_any (share_element e) given) (is_given_twice (e ∷ given) es) (is_given_twice (given_after (e ∷ given) es) fs))

abbrev pub SameGiven : List Stretch → List Stretch → Type 0
SameGiven given others = (e : Stretch) → list_any (share_element e) given ≡ list_any (share_element e) others

same-more : (given others : List Stretch) (e : Stretch) → SameGiven given others → SameGiven (e ∷ given) (e ∷ others)
same-more given others e h f = ap (λ b. share_element f e || b) (h f)

twice-of-same : (given others es : List Stretch) → SameGiven given others → is_given_twice given es ≡ is_given_twice others es
twice-of-same given others [] h = refl
twice-of-same given others (e ∷ es) h = λ i. h e i || twice-of-same (e ∷ given) (e ∷ others) es (same-more given others e h) i

any-append-same : (test : Stretch → Bool) (es given others : List Stretch) → list_any test given ≡ list_any test others → list_any test (es ++ given) ≡ list_any test (es ++ others)
any-append-same test [] given others h = h
any-append-same test (e ∷ es) given others h = ap (λ b. test e || b) (any-append-same test es given others h)

-- ---- elements that are given values

gives-more : (unit : List Statement) (a b c : InitializedElements) (es fs : List Stretch) (p q r : Bool) → Gives unit a b es p → Gives unit b c fs q → r ≡ (p || q) → Gives unit a c (es ++ fs) r
gives-more unit a b c es fs p q r h k e given is =
    let one = h given is in
    let two = k (given_after given es) one.1 in (
      e ∙ (ap (λ t. t || q) one.0 ∙ (ap (λ t. is_given_twice given es || t) two.0 ∙ sym (twice-append given es fs))),
      subst (λ gs. IsGiven unit gs c) (sym (after-append given es fs)) two.1,
    )

pub gives-turn : {A : Type 0} (unit : List Statement) (f : A → List Stretch) (xs : List A) (i : ℕ) (x : A) (a b c : InitializedElements) (p q r : Bool) → i < length xs → x ≡ get_or xs i x
    → Gives unit a b (flat_map f (take i xs)) p → Gives unit b c (f x) q → r ≡ (p || q) → Gives unit a c (flat_map f (take (i + 1) xs)) r
gives-turn unit f xs i x a b c p q r lt at h k e =
    let all = ap (flat_map f) (take_more xs i x lt ∙ ap (λ y. take i xs ++ y ∷ []) (sym at))
    ∙ (flat_map-append f (take i xs) (x ∷ []) ∙ ap (λ es. flat_map f (take i xs) ++ es) (append-nil (f x))) in
    subst (λ es. Gives unit a c es r) (sym all) (gives-more unit a b c (flat_map f (take i xs)) (f x) p q r h k e)

-- ---- statements

module _ (unit : List Statement) (known : Constants) (given : List Stretch) (s : Statement) where
  abbrev es : List Stretch
  es = elements_in unit known s

-- ---- the lines of all statements that violate 311

lines-same : (unit : List Statement) (ss : List Statement) (k m : Constants) (given others : List Stretch) → value_among k ≡ value_among m → SameGiven given others
    → data_lines unit k given ss ≡ data_lines unit m others ss
lines-same unit [] k m given others h g = refl
lines-same unit (s ∷ ss) k m given others h g =
    let behind = constants_in s.form in
    let wrong = wrong-here-same unit k m h s in
    let same = elements-same unit k m h s in
    let twice = twice-of-same given others (elements_in unit k s) g ∙ ap (is_given_twice others) same in
    let more =
    lines-same unit ss (given_by unit k behind) (given_by unit m behind) (elements_in unit k s ++ given) (elements_in unit m s ++ others) (given-same unit behind k m h)
    (λ e. any-append-same (share_element e) (elements_in unit k s) given others (g e) ∙ ap (λ es. list_any (share_element e) (es ++ others)) same) in
    λ i. option_to_list (line_when (wrong i || twice i) s.line) ++ more i

-- a turn of the loop
pub lines-turn : (unit : List Statement) (known : Constants) (given : List Stretch) (s : Statement) (ss more : List Statement) (after : Constants) (found next whole : List ℕ) (wrong : Bool)
    → ss ≡ s ∷ more → found ++ data_lines unit known given ss ≡ whole → wrong ≡ (is_wrong unit known s || is_given_twice given (elements_in unit known s))
    → next ≡ found ++ option_to_list (line_when wrong s.line) → value_among after ≡ value_among (given_by unit known (constants_in s.form))
    → next ++ data_lines unit after (given_after given (elements_in unit known s)) more ≡ whole
lines-turn unit known given s ss more after found next whole wrong all so_far w n e =
    let es = elements_in unit known s in
    let after_it = given_by unit known (constants_in s.form) in
    let here = option_to_list (line_when (is_wrong unit known s || is_given_twice given es) s.line) in
    let first : next ≡ found ++ here = n ∙ ap (λ b. found ++ option_to_list (line_when b s.line)) w in
    let later = lines-same unit more after after_it (given_after given es) (es ++ given) e (λ f. any-after (share_element f) given es) in
    (λ i. first i ++ later i)
    ∙ (append_assoc found here (data_lines unit after_it (es ++ given) more) ∙ (ap (λ us. found ++ data_lines unit known given us) (sym all) ∙ so_far))

pub lines-end : (unit : List Statement) (known : Constants) (given : List Stretch) (ss : List Statement) (i : ℕ) (found whole : List ℕ) → length ss ≤ i
    → found ++ data_lines unit known given (drop i ss) ≡ whole → found ≡ whole
lines-end unit known given ss i found whole le so_far =
    sym (append-nil found) ∙ (ap (λ us. found ++ data_lines unit known given us) (sym (drop_all i ss le)) ∙ so_far)

-- these lines and the violations of 311, as each test of a line sees them
module _ (test : ℕ → Bool) where
  abbrev by : Violation → Bool
  by v = test v.line

  any-line : (b : Bool) (line : ℕ) → list_any test (option_to_list (line_when b line)) ≡ (b && test line)
  any-line true line = or-false (test line)
  any-line false line = refl

  any-when : (b : Bool) (line : ℕ) → list_any by (when b (at_line 311 line)) ≡ (b && test line)
  any-when true line = or-false (test line)
  any-when false line = refl

  lines-both : (unit : List Statement) (known : Constants) (given : List Stretch) (ss : List Statement)
      → list_any test (data_lines unit known given ss) ≡ (list_any by (wrong_groups_from unit known ss) || list_any by (given_twice_from unit known given ss))
  lines-both unit known given [] = refl
  lines-both unit known given (s ∷ ss) =
      let es = elements_in unit known s in
      let after_it = given_by unit known (constants_in s.form) in
      let wrong = is_wrong unit known s in
      let twice = is_given_twice given es in
      let groups = wrong_groups_from unit after_it ss in
      let elements = given_twice_from unit after_it (es ++ given) ss in
      list_any-append test (option_to_list (line_when (wrong || twice) s.line)) (data_lines unit after_it (es ++ given) ss)
      ∙ ((λ i. (any-line (wrong || twice) s.line ∙ sym (and-split wrong twice (test s.line))) i || lines-both unit after_it (es ++ given) ss i)
      ∙ (or-swapped (wrong && test s.line) (twice && test s.line) (list_any by groups) (list_any by elements)
      ∙ (λ i. (ap (λ b. b || list_any by groups) (sym (any-when wrong s.line)) ∙ sym (list_any-append by (when wrong (at_line 311 s.line)) groups)) i
      || (ap (λ b. b || list_any by elements) (sym (any-when twice s.line)) ∙ sym (list_any-append by (when twice (at_line 311 s.line)) elements)) i)))

  pub lines-told : (unit : List Statement) → list_any test (data_lines unit [] [] unit) ≡ list_any by (data_violations unit)
  lines-told unit = lines-both unit [] [] unit ∙ sym (list_any-append by (wrong_groups_from unit [] unit) (given_twice_from unit [] [] unit))
