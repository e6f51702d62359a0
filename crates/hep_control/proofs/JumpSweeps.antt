-- The regions of a unit in another order, and what is reported of jumps: 308.
use Rattle.std.proofs.Common.{◌≡◌, ℕ, Bool, ◌||◌, List, [], ◌∷◌, ◌++◌, map, reverse, Option, Some, None, refl, ◌∙◌, sym, ap, suc, ◌-◌, ◌≤◌, not, ◌&&◌, nat_lt, option_to_list, arith}
use Rattle.std.proofs.lemmas.List.{reverse-append}
use Rattle.std.specs.List.{flat_map, list_any}
use Rattle.std.proofs.lemmas.List.Folds.{list_any-append}
use Rattle.hep_machine.specs.Words.{Statement, statement_at, role_of, index_labelled}
use Rattle.hep_conditions.specs.Nesting as nesting
use Rattle.hep_conditions.specs.Words.{regions_before, regions_to_last, block_regions, range_region, ranges_of, block_ifs_of, regions_of, IndexedStatement, indexed_statements, enters, is_division, is_wrong_jump, jump_to, jump_violations, targets_of_jump, Violations, least_line, line_when}
use Rattle.hep_control.specs.declared.blocks.BlockIf.{BlockIf}
use Rattle.hep_control.specs.Ranges.{block_if}
use Rattle.hep_control.specs.Jumps.{blocks_from, blocks_in, region, Leap, leap, leap_to, leaps_at, leaps_of, value_by_start, question_by_start, value_by_end, question_by_end, line_to_division}
use Rattle.hep_control.proofs.Sets.{any-line, any-when, line_passes, or-comm, any-map, any-reverse}
use Rattle.hep_source.proofs.Tests.{or-false, or-assoc, any-flat, any-or, and-split, any-same}
use Rattle.std.below.core.specs.declared.int.usize.TheConstants.{MAX}
use Rattle.std.proofs.lemmas.Bool.Decides.{nat_tests}
use Rattle.hep_conditions.proofs.Lines.{least_line-or}
use Rattle.hep_control.specs.declared.region.Region.{Region}
use Rattle.hep_control.specs.declared.region.Jump.{Jump}
use Rattle.hep_control.specs.Sweep.{is_within, lines_asked}
use Rattle.hep_control.proofs.Swept.{lines-asked}

-- ---- regions in another order

reverse-first : {A : Type 0} (x : A) (xs : List A) → reverse (x ∷ xs) ≡ reverse xs ++ x ∷ []
reverse-first x xs = reverse-append (x ∷ []) xs

abbrev piece : ℕ → ℕ → nesting.Region
piece start end = record { after = start; before = end }

before-first : (s e d : ℕ) (xs : List ℕ) → regions_before s e (xs ++ d ∷ []) ≡ regions_before d e xs ++ piece s d ∷ []
before-first s e d [] = refl
before-first s e d (k ∷ xs) = ap (λ l. piece k e ∷ l) (before-first s k d xs)

last-first : (s d : ℕ) (xs : List ℕ) → regions_to_last s (xs ++ d ∷ []) ≡ regions_to_last d xs ++ piece s d ∷ []
last-first s d [] = refl
last-first s d (k ∷ xs) = before-first s k d xs

module _ (test : nesting.Region → Bool) where
  last_first : (rs : List nesting.Region) (r : nesting.Region) → list_any test (rs ++ r ∷ []) ≡ (test r || list_any test rs)
  last_first rs r = list_any-append test rs (r ∷ []) ∙ (ap (λ b. list_any test rs || b) (or-false (test r)) ∙ or-comm (list_any test rs) (test r))

  closed : (s e : ℕ) (ds : List ℕ) → list_any test (blocks_from s ds (Some e)) ≡ list_any test (regions_before s e (reverse ds))
  closed s e [] = refl
  closed s e (d ∷ ds) =
      ap (λ b. test (piece s d) || b) (closed d e ds)
      ∙ (sym (last_first (regions_before d e (reverse ds)) (piece s d)) ∙ (ap (list_any test) (sym (before-first s e d (reverse ds))) ∙ ap (λ l. list_any test (regions_before s e l)) (sym (reverse-first d ds))))

  unclosed : (s : ℕ) (ds : List ℕ) → list_any test (blocks_from s ds None) ≡ list_any test (regions_to_last s (reverse ds))
  unclosed s [] = refl
  unclosed s (d ∷ ds) =
      ap (λ b. test (piece s d) || b) (unclosed d ds)
      ∙ (sym (last_first (regions_to_last d (reverse ds)) (piece s d)) ∙ (ap (list_any test) (sym (last-first s d (reverse ds))) ∙ ap (λ l. list_any test (regions_to_last s l)) (sym (reverse-first d ds))))

  by_end : (s : ℕ) (ds : List ℕ) (has_else : Bool) (end : Option ℕ)
      → list_any test (blocks_from s ds end) ≡ list_any test (block_regions (record { start = s; divisions = reverse ds; has_else = has_else; end = end }))
  by_end s ds has_else None = unclosed s ds
  by_end s ds has_else (Some e) = closed s e ds

  one_block : (b : BlockIf) → list_any test (blocks_in b) ≡ list_any test (block_regions (block_if b))
  one_block b = by_end b.start b.divisions.items b.has_else b.end

  blocks-any : (bs : List BlockIf) → list_any test (flat_map blocks_in bs) ≡ list_any test (flat_map block_regions (reverse (map block_if bs)))
  blocks-any bs =
      any-flat test blocks_in bs
      ∙ (any-same (λ b. list_any test (blocks_in b)) (λ b. list_any test (block_regions (block_if b))) one_block bs
      ∙ (sym (any-map (λ b. list_any test (block_regions b)) block_if bs)
      ∙ (sym (any-reverse (λ b. list_any test (block_regions b)) (map block_if bs)) ∙ sym (any-flat test block_regions (reverse (map block_if bs))))))

  pub regions-any : (unit : List Statement) (rs : List nesting.DoRange) (cs us : List BlockIf) → rs ≡ ranges_of unit
      → reverse (map block_if cs) ≡ (block_ifs_of unit).closed → reverse (map block_if us) ≡ (block_ifs_of unit).unclosed
      → list_any test ((map range_region rs ++ flat_map blocks_in cs) ++ flat_map blocks_in us) ≡ list_any test (regions_of unit)
  regions-any unit rs cs us r c u =
      let closed_are : list_any test (flat_map blocks_in cs) ≡ list_any test (flat_map block_regions (block_ifs_of unit).closed) = blocks-any cs ∙ ap (λ l. list_any test (flat_map block_regions l)) c in
      let unclosed_are : list_any test (flat_map blocks_in us) ≡ list_any test (flat_map block_regions (block_ifs_of unit).unclosed) = blocks-any us ∙ ap (λ l. list_any test (flat_map block_regions l)) u in
      simp (r, list_any-append, or-assoc, closed_are, unclosed_are)

-- ---- jump by jump

module _ (unit : List Statement) where
  abbrev pub line_wrong : Leap → Option ℕ
  line_wrong j = line_when (is_wrong_jump unit j.from j.to) j.line

  -- the same, as a test of a line sees it
  module _ (test : ℕ → Bool) where
    abbrev pub wrong_passes : Leap → Bool
    wrong_passes j = is_wrong_jump unit j.from j.to && test j.line

    jump-passes : (p : IndexedStatement) (o : Option ℕ) → list_any (line_passes test) (jump_to unit p o) ≡ list_any wrong_passes (leap_to p.index p.statement.line o)
    jump-passes p None = refl
    jump-passes p (Some to) =
        any-when test 308 p.statement.line (is_wrong_jump unit p.index to) ∙ sym (or-false (is_wrong_jump unit p.index to && test p.statement.line))

    abbrev jumps_at : IndexedStatement → Violations
    jumps_at p = flat_map (λ l. jump_to unit p (index_labelled unit l)) (targets_of_jump p.statement.form)

    jumps-at : (p : IndexedStatement) → list_any (line_passes test) (jumps_at p) ≡ list_any wrong_passes (leaps_at unit p)
    jumps-at p =
        let labels = targets_of_jump p.statement.form in
        any-flat (line_passes test) (λ l. jump_to unit p (index_labelled unit l)) labels
        ∙ (any-same (λ l. list_any (line_passes test) (jump_to unit p (index_labelled unit l))) (λ l. list_any wrong_passes (leap_to p.index p.statement.line (index_labelled unit l)))
        (λ l. jump-passes p (index_labelled unit l)) labels
        ∙ sym (any-flat wrong_passes (λ l. leap_to p.index p.statement.line (index_labelled unit l)) labels))

    pub jumps-pass : list_any (line_passes test) (jump_violations unit) ≡ list_any wrong_passes (leaps_of unit)
    jumps-pass =
        any-flat (line_passes test) jumps_at (indexed_statements unit)
        ∙ (any-same (λ p. list_any (line_passes test) (jumps_at p)) (λ p. list_any wrong_passes (leaps_at unit p)) jumps-at (indexed_statements unit)
        ∙ sym (any-flat wrong_passes (leaps_at unit) (indexed_statements unit)))

-- ---- the regions that a jump leads into

abbrev pub enters_late : Jump → Region → Bool
enters_late j r = nat_lt r.after j.to && is_within (suc j.to) (suc j.from) r.before

abbrev pub enters_early : Jump → Region → Bool
enters_early j r = nat_lt (MAX - r.before) (MAX - j.to) && is_within j.from j.to r.after

from_end : (m before to : ℕ) → before ≤ m → nat_lt (m - before) (m - to) ≡ nat_lt to before
from_end m before to h = grind (arith, nat_tests)

-- in the region, and out of it before its start or after its end
plain : (from to after before : ℕ)
    → ((nat_lt after to && nat_lt to before) && not (nat_lt after from && nat_lt from before))
    ≡ ((nat_lt after to && is_within (suc to) (suc from) before) || (nat_lt to before && is_within from to after))
plain from to after before = grind (arith, nat_tests)

one-enters : (j : Jump) (r : Region) → enters j.from j.to (region r) ≡ (enters_late j r || enters_early j r)
one-enters j r = plain j.from j.to r.after r.before ∙ ap (λ b. (nat_lt r.after j.to && is_within (suc j.to) (suc j.from) r.before) || (b && is_within j.from j.to r.after)) (sym (from_end MAX r.before j.to r.counted))

any-enters : (j : Jump) (rs : List Region) → list_any (enters j.from j.to) (map region rs) ≡ (list_any (enters_late j) rs || list_any (enters_early j) rs)
any-enters j rs =
    any-map (enters j.from j.to) region rs
    ∙ (any-same (λ r. enters j.from j.to (region r)) (λ r. enters_late j r || enters_early j r) (one-enters j) rs ∙ any-or (enters_late j) (enters_early j) rs)

module _ (unit : List Statement) (rs : List Region) (js : List Jump)
    (regions : (test : nesting.Region → Bool) → list_any test (map region rs) ≡ list_any test (regions_of unit))
    (jumps : map leap js ≡ leaps_of unit) where
  abbrev late : Jump → Option ℕ
  late j = line_when (list_any (enters_late j) rs) j.line

  abbrev early : Jump → Option ℕ
  early j = line_when (list_any (enters_early j) rs) j.line

  one : (j : Jump) → line_wrong unit (leap j) ≡ least_line (least_line (late j) (early j)) (line_to_division unit j)
  one j =
      ap (λ b. line_when (b || is_division (role_of (statement_at unit j.to))) j.line) (sym (regions (enters j.from j.to)) ∙ any-enters j rs)
      ∙ (sym (least_line-or j.line (list_any (enters_late j) rs || list_any (enters_early j) rs) (is_division (role_of (statement_at unit j.to))))
      ∙ ap (λ o. least_line o (line_to_division unit j)) (sym (least_line-or j.line (list_any (enters_late j) rs) (list_any (enters_early j) rs))))

  -- ---- all lines

  module _ (test : ℕ → Bool) where
    abbrev late_passes : Jump → Bool
    late_passes j = list_any (enters_late j) rs && test j.line

    abbrev early_passes : Jump → Bool
    early_passes j = list_any (enters_early j) rs && test j.line

    abbrev division_passes : Jump → Bool
    division_passes j = is_division (role_of (statement_at unit j.to)) && test j.line

    one_passes : (j : Jump) → wrong_passes unit test (leap j) ≡ ((late_passes j || early_passes j) || division_passes j)
    one_passes j =
        let division = is_division (role_of (statement_at unit j.to)) in
        ap (λ b. (b || division) && test j.line) (sym (regions (enters j.from j.to)) ∙ any-enters j rs)
        ∙ (sym (and-split (list_any (enters_late j) rs || list_any (enters_early j) rs) division (test j.line))
        ∙ ap (λ b. b || (division && test j.line)) (sym (and-split (list_any (enters_late j) rs) (list_any (enters_early j) rs) (test j.line))))

    late-lines : list_any test (lines_asked (map value_by_start rs ++ map question_by_start js)) ≡ list_any late_passes js
    late-lines = lines-asked (λ (r : Region). r.after) (λ (r : Region). r.before) (λ (j : Jump). j.to) (λ (j : Jump). suc j.to) (λ (j : Jump). suc j.from) (λ (j : Jump). j.line) test rs js

    early-lines : list_any test (lines_asked (map value_by_end rs ++ map question_by_end js)) ≡ list_any early_passes js
    early-lines = lines-asked (λ (r : Region). MAX - r.before) (λ (r : Region). r.after) (λ (j : Jump). MAX - j.to) (λ (j : Jump). j.from) (λ (j : Jump). j.to) (λ (j : Jump). j.line) test rs js

    division-lines : list_any test (flat_map (λ (j : Jump). option_to_list (line_to_division unit j)) js) ≡ list_any division_passes js
    division-lines =
        any-flat test (λ (j : Jump). option_to_list (line_to_division unit j)) js
        ∙ any-same (λ (j : Jump). list_any test (option_to_list (line_to_division unit j))) division_passes (λ j. any-line test (is_division (role_of (statement_at unit j.to))) j.line) js

    all_passes : list_any (line_passes test) (jump_violations unit) ≡ ((list_any late_passes js || list_any early_passes js) || list_any division_passes js)
    all_passes =
        jumps-pass unit test
        ∙ (ap (list_any (wrong_passes unit test)) (sym jumps)
        ∙ (any-map (wrong_passes unit test) leap js
        ∙ (any-same (λ j. wrong_passes unit test (leap j)) (λ j. (late_passes j || early_passes j) || division_passes j) one_passes js
        ∙ (any-or (λ j. late_passes j || early_passes j) division_passes js
        ∙ ap (λ b. b || list_any division_passes js) (any-or late_passes early_passes js)))))

    -- three parts
    pub jumps-told : (old a b c : List ℕ) → old ≡ [] → list_any test a ≡ (list_any test old || list_any test (lines_asked (map value_by_start rs ++ map question_by_start js)))
        → list_any test b ≡ (list_any test a || list_any test (lines_asked (map value_by_end rs ++ map question_by_end js)))
        → c ≡ b ++ flat_map (λ (j : Jump). option_to_list (line_to_division unit j)) js
        → list_any test c ≡ list_any (line_passes test) (jump_violations unit)
    jumps-told old a b c n ae be ce =
        let first : list_any test a ≡ list_any late_passes js = ae ∙ ((λ i. list_any test (n i) || late-lines i)) in
        let second : list_any test b ≡ (list_any late_passes js || list_any early_passes js) = be ∙ (λ i. first i || early-lines i) in
        ap (list_any test) ce
        ∙ (list_any-append test b (flat_map (λ (j : Jump). option_to_list (line_to_division unit j)) js)
        ∙ ((λ i. second i || division-lines i) ∙ sym all_passes))
