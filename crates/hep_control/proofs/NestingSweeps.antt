-- Ranges of one variable, one in another; and what isn't nested, in four parts, by three passes over events and one over ranges: 307.
use Rattle.std.proofs.Common.{◌≡◌, ℕ, suc, ◌<◌, ◌≤◌, Bool, true, false, ◌&&◌, ◌||◌, nat_lt, nat_le, cond, if◌then◌else◌, List, [], ◌∷◌, ◌++◌, Option, Some, None, refl, ◌∙◌, sym, ap, arith, map, reverse, option_to_list, append_assoc, le-ltb, lt-ltb}
use Rattle.std.specs.List.{flat_map, list_any}
use Rattle.std.proofs.lemmas.Bool.Decides.{nat_tests}
use Rattle.hep_machine.specs.Words.{Name, Form, Statement, name_eq, same_name, line_at, index_labelled}
use Rattle.hep_source.specs.declared.statement.Form.TheVariants as form
use Rattle.hep_source.proofs.NameTests.{equal_names, name_eq-is}
use Rattle.hep_conditions.specs.Words.{indexed_from, is_unconditional, range_to, range_by, ranges_of, shares_variable, block_ifs_of, ranges_cross, range_pair, leaves_range, leaves_block, crossing, nesting_violations, is_between, ends_after, end_between, least_line, line_when, least_line_of, when, at_line}
use Rattle.hep_conditions.proofs.Lines.{least_line-or, least_line_of-any}
use Rattle.hep_control.specs.Ranges.{range_at, block_if, do_range}
use Rattle.hep_control.specs.Nesting.{later, with_range, reaches, lines_shared, value_of_range, question_of_range, question_of_block, BlockEnd, ends_from, ends_in, value_of_end, values_in, question_in_range}
use Rattle.hep_source.proofs.Tests.{and-false, and-true, or-assoc, or-false, or-turned, any-or, and-assoc, any-flat, and-split, any-same, any-and, any-turned}
use Rattle.std.specs.Option.{unwrap_or}
use Rattle.std.proofs.lemmas.List.{map-append}
use Rattle.std.proofs.lemmas.List.Folds.{list_any-append}
use Rattle.hep_conditions.specs.Nesting as nesting
use Rattle.hep_control.specs.declared.blocks.BlockIf.{BlockIf}
use Rattle.hep_control.specs.declared.region.DoRange.{DoRange}
use Rattle.hep_control.specs.Sweep.{is_within, lines_asked}
use Rattle.hep_control.proofs.Sets.{any-line, any-map, any-when, line_passes, any-reverse}
use Rattle.hep_control.proofs.Swept.{lines-asked}

-- ---- the pass

-- a range that a table gets
pub met-range : (last : Name → Option ℕ) (r : nesting.DoRange) (x : Name)
    → cond (name_eq r.variable x) (Some (later (last r.variable) r.terminal)) (last x) ≡ with_range last r x
met-range last r x = ap (λ b. cond b (Some (later (last r.variable) r.terminal)) (last x)) (name_eq-is r.variable x) ∙ by (same_name r.variable x)
  where
    by : (b : Bool) → cond b (Some (later (last r.variable) r.terminal)) (last x) ≡ (if b then Some (later (last r.variable) r.terminal) else last x)
    by true = refl
    by false = refl

-- ---- ranges in order

abbrev Rising : ℕ → List nesting.DoRange → Type 0
Rising n [] = Unit {0}
Rising n (r ∷ rs) = (n ≤ r.start) × Rising (suc r.start) rs

rising-later : (m n : ℕ) (rs : List nesting.DoRange) → m ≤ n → Rising n rs → Rising m rs
rising-later m n [] l h = tt
rising-later m n (r ∷ rs) l h = (omega (arith, l, h.0), h.1)

module _ (unit : List Statement) where
  rising-to : (k : ℕ) (x : Name) (o : Option ℕ) (rs : List nesting.DoRange) → Rising (suc k) rs → Rising k (range_to k x o ++ rs)
  rising-to k x None rs h = rising-later k (suc k) rs (omega arith) h
  rising-to k x (Some t) rs h = by (nat_lt k t)
    where
      by : (b : Bool) → Rising k ((if b then record { start = k; terminal = t; variable = x } ∷ [] else []) ++ rs)
      by true = (omega arith, h)
      by false = rising-later k (suc k) rs (omega arith) h

  rising-by : (k : ℕ) (f : Form) (rs : List nesting.DoRange) → Rising (suc k) rs → Rising k (range_by unit k f ++ rs)
  rising-by k (form.Do c) rs h = rising-to k c.variable.name (index_labelled unit c.terminal) rs h
  rising-by k _ rs h = rising-later k (suc k) rs (omega arith) h

  rising-at : (b : Bool) (k : ℕ) (f : Form) (rs : List nesting.DoRange) → Rising (suc k) rs → Rising k ((if b then range_by unit k f else []) ++ rs)
  rising-at true k f rs h = rising-by k f rs h
  rising-at false k f rs h = rising-later k (suc k) rs (omega arith) h

  rising-from : (k : ℕ) (ss : List Statement) → Rising k (flat_map (range_at unit) (indexed_from k ss))
  rising-from k [] = tt
  rising-from k (s ∷ ss) = rising-at (is_unconditional s) k s.form (flat_map (range_at unit) (indexed_from (suc k) ss)) (rising-from (suc k) ss)

  rising : Rising 0 (ranges_of unit)
  rising = rising-from 0 unit

-- ---- what the pass keeps

abbrev latest : List nesting.DoRange → Name → Option ℕ
latest [] x = None
latest (r ∷ rs) x = with_range (latest rs) r x

abbrev reaches_by : ℕ → Name → nesting.DoRange → Bool
reaches_by k x r = nat_le k r.terminal && same_name r.variable x

reaches-later : (o : Option ℕ) (t k : ℕ) → reaches (Some (later o t)) k ≡ (nat_le k t || reaches o k)
reaches-later None t k = sym (or-false (nat_le k t))
reaches-later (Some s) t k = grind (arith, nat_tests)

latest-reaches : (k : ℕ) (x : Name) (rs : List nesting.DoRange) → reaches (latest rs x) k ≡ list_any (reaches_by k x) rs
latest-reaches k x [] = refl
latest-reaches k x (r ∷ rs) = by (same_name r.variable x) refl (latest-reaches k x rs)
  where
    by : (b : Bool) → same_name r.variable x ≡ b → reaches (latest rs x) k ≡ list_any (reaches_by k x) rs
        → reaches (if b then Some (later (latest rs r.variable) r.terminal) else latest rs x) k ≡ ((nat_le k r.terminal && b) || list_any (reaches_by k x) rs)
    by true e h =
        ap (λ y. reaches (Some (later (latest rs y) r.terminal)) k) (equal_names r.variable x e)
        ∙ (reaches-later (latest rs x) r.terminal k ∙ (ap (λ b. nat_le k r.terminal || b) h ∙ ap (λ b. b || list_any (reaches_by k x) rs) (sym (and-true (nat_le k r.terminal)))))
    by false e h = h ∙ ap (λ b. b || list_any (reaches_by k x) rs) (sym (and-false (nat_le k r.terminal)))

abbrev Started : ℕ → List nesting.DoRange → Type 0
Started n [] = Unit {0}
Started n (r ∷ rs) = (r.start < n) × Started n rs

started-later : (m n : ℕ) (rs : List nesting.DoRange) → m ≤ n → Started m rs → Started n rs
started-later m n [] l h = tt
started-later m n (r ∷ rs) l h = (omega (arith, l, h.0), started-later m n rs l h.1)

before-shares : (b : nesting.DoRange) (rs : List nesting.DoRange) → Started b.start rs → list_any (λ a. shares_variable a b) rs ≡ list_any (reaches_by b.start b.variable) rs
before-shares b [] h = refl
before-shares b (r ∷ rs) h =
    ap (λ t. (t && reaches_by b.start b.variable r) || list_any (λ a. shares_variable a b) rs) (lt-ltb r.start b.start h.0)
    ∙ ap (λ t. reaches_by b.start b.variable r || t) (before-shares b rs h.1)

after-shares : (b : nesting.DoRange) (n : ℕ) (rs : List nesting.DoRange) → b.start ≤ n → Rising n rs → list_any (λ a. shares_variable a b) rs ≡ false
after-shares b n [] l h = refl
after-shares b n (r ∷ rs) l h =
    ap (λ t. (t && reaches_by b.start b.variable r) || list_any (λ a. shares_variable a b) rs) (le-ltb r.start b.start (omega (arith, l, h.0)))
    ∙ after-shares b (suc r.start) rs (omega (arith, l, h.0)) h.1

-- all ranges are those that were met and those ahead
abbrev Together : List nesting.DoRange → List nesting.DoRange → List nesting.DoRange → Type 0
Together met ahead all = (test : nesting.DoRange → Bool) → list_any test all ≡ (list_any test met || list_any test ahead)

together-next : (met ahead all : List nesting.DoRange) (r : nesting.DoRange) → Together met (r ∷ ahead) all → Together (r ∷ met) ahead all
together-next met ahead all r h test = h test ∙ or-turned (list_any test met) (test r) (list_any test ahead) ∙ sym (or-assoc (test r) (list_any test met) (list_any test ahead))

shares-here : (met ahead all : List nesting.DoRange) (r : nesting.DoRange) → Started r.start met → Rising (suc r.start) ahead → Together met (r ∷ ahead) all
    → reaches (latest met r.variable) r.start ≡ list_any (λ a. shares_variable a r) all
shares-here met ahead all r s a h =
    latest-reaches r.start r.variable met
    ∙ (sym (before-shares r met s)
    ∙ (sym (or-false (list_any (λ x. shares_variable x r) met))
    ∙ (ap (λ t. list_any (λ x. shares_variable x r) met || t) (sym (after-shares r r.start (r ∷ ahead) (omega arith) (omega arith, a))) ∙ sym (h (λ x. shares_variable x r)))))

-- the lines of all of them
module _ (unit : List Statement) (all : List nesting.DoRange) (test : ℕ → Bool) where
  abbrev passes_in_another : nesting.DoRange → Bool
  passes_in_another b = list_any (λ a. shares_variable a b) all && test (line_at unit b.start)

  lines-pass : (n : ℕ) (met ahead : List nesting.DoRange) → Started n met → Rising n ahead → Together met ahead all → list_any test (lines_shared unit (latest met) ahead) ≡ list_any passes_in_another ahead
  lines-pass n met [] s a h = refl
  lines-pass n met (r ∷ ahead) s a h =
      let is_in_one = reaches (latest met r.variable) r.start in
      let here = any-line test is_in_one (line_at unit r.start) ∙ ap (λ b. b && test (line_at unit r.start)) (shares-here met ahead all r (started-later n r.start met a.0 s) a.1 h) in
      let more =
      lines-pass (suc r.start) (r ∷ met) ahead (omega arith, started-later n (suc r.start) met (omega (arith, a.0)) s) a.1 (together-next met ahead all r h) in
      list_any-append test (option_to_list (line_when is_in_one (line_at unit r.start))) (lines_shared unit (latest (r ∷ met)) ahead) ∙ (λ i. here i || more i)

-- one range more
pub lines-shared-next : (unit : List Statement) (last new : Name → Option ℕ) (found next whole : List ℕ) (r : nesting.DoRange) (rs xs : List nesting.DoRange) → ((x : Name) → new x ≡ with_range last r x)
    → xs ≡ r ∷ rs → found ++ lines_shared unit last xs ≡ whole → next ≡ found ++ option_to_list (line_when (reaches (last r.variable) r.start) (line_at unit r.start))
    → next ++ lines_shared unit new rs ≡ whole
lines-shared-next unit last new found next whole r rs xs h d k n =
    let here = option_to_list (line_when (reaches (last r.variable) r.start) (line_at unit r.start)) in
    (λ i. n i ++ lines_shared unit (λ x. h x i) rs)
    ∙ (append_assoc found here (lines_shared unit (with_range last r) rs) ∙ (ap (λ ys. found ++ lines_shared unit last ys) (sym d) ∙ k))

-- ---- what isn't nested

module _ (unit : List Statement) where
  abbrev rs : List nesting.DoRange
  rs = ranges_of unit

  abbrev bs : List nesting.BlockIf
  bs = (block_ifs_of unit).closed

  abbrev line : nesting.DoRange → ℕ
  line r = line_at unit r.start

  -- the later of two ranges that cross, or that share a variable
  abbrev pub crossed : nesting.DoRange → Option ℕ
  crossed b = line_when (list_any (λ a. ranges_cross a b) rs) (line b)

  abbrev pub shared : nesting.DoRange → Option ℕ
  shared b = line_when (list_any (λ a. shares_variable a b) rs) (line b)

  abbrev pairs : nesting.DoRange → Option ℕ
  pairs a = least_line_of (λ b. line_when (ranges_cross a b || shares_variable a b) (line b)) rs

  two : (b : nesting.DoRange) → least_line_of (λ a. line_when (ranges_cross a b || shares_variable a b) (line b)) rs ≡ least_line (crossed b) (shared b)
  two b =
      least_line_of-any (λ a. ranges_cross a b || shares_variable a b) (line b) rs
      ∙ (ap (λ t. line_when t (line b)) (any-or (λ a. ranges_cross a b) (λ a. shares_variable a b) rs)
      ∙ sym (least_line-or (line b) (list_any (λ a. ranges_cross a b) rs) (list_any (λ a. shares_variable a b) rs)))

-- ---- what isn't nested, as a test of a line sees it

module _ (unit : List Statement) (test : ℕ → Bool) where
  abbrev doings : List nesting.DoRange
  doings = ranges_of unit

  abbrev blocks : List nesting.BlockIf
  blocks = (block_ifs_of unit).closed

  abbrev range_test : nesting.DoRange → Bool
  range_test r = test (line_at unit r.start)

  abbrev block_test : nesting.BlockIf → Bool
  block_test b = test (line_at unit b.start)

  abbrev pub crossed_passes : nesting.DoRange → Bool
  crossed_passes b = list_any (λ a. ranges_cross a b) doings && range_test b

  abbrev pub shared_passes : nesting.DoRange → Bool
  shared_passes b = list_any (λ a. shares_variable a b) doings && range_test b

  abbrev pub block_passes : nesting.BlockIf → Bool
  block_passes b = list_any (λ a. leaves_range a b) doings && block_test b

  abbrev pub range_passes : nesting.DoRange → Bool
  range_passes a = list_any (leaves_block a) blocks && range_test a

  abbrev pair_passes : nesting.DoRange → nesting.DoRange → Bool
  pair_passes a b = (ranges_cross a b || shares_variable a b) && range_test b

  two_pass : (b : nesting.DoRange) → list_any (λ a. pair_passes a b) doings ≡ (crossed_passes b || shared_passes b)
  two_pass b =
      any-and (λ a. ranges_cross a b || shares_variable a b) (range_test b) doings
      ∙ (ap (λ c. c && range_test b) (any-or (λ a. ranges_cross a b) (λ a. shares_variable a b) doings)
      ∙ sym (and-split (list_any (λ a. ranges_cross a b) doings) (list_any (λ a. shares_variable a b) doings) (range_test b)))

  pairs_of : (a : nesting.DoRange) → list_any (line_passes test) (flat_map (range_pair unit a) doings) ≡ list_any (pair_passes a) doings
  pairs_of a =
      any-flat (line_passes test) (range_pair unit a) doings
      ∙ any-same (λ b. list_any (line_passes test) (range_pair unit a b)) (pair_passes a) (λ b. any-when test 307 (line_at unit b.start) (ranges_cross a b || shares_variable a b)) doings

  pairs_pass : list_any (λ a. list_any (line_passes test) (flat_map (range_pair unit a) doings)) doings ≡ (list_any crossed_passes doings || list_any shared_passes doings)
  pairs_pass =
      any-same (λ a. list_any (line_passes test) (flat_map (range_pair unit a) doings)) (λ a. list_any (pair_passes a) doings) pairs_of doings
      ∙ (any-turned pair_passes doings doings
      ∙ (any-same (λ b. list_any (λ a. pair_passes a b) doings) (λ b. crossed_passes b || shared_passes b) two_pass doings
      ∙ any-or crossed_passes shared_passes doings))

  abbrev leaves_passes : nesting.DoRange → nesting.BlockIf → Bool
  leaves_passes a b = leaves_range a b && block_test b

  crossing_passes : (a : nesting.DoRange) (b : nesting.BlockIf) → list_any (line_passes test) (crossing unit a b) ≡ (leaves_passes a b || (leaves_block a b && range_test a))
  crossing_passes a b =
      list_any-append (line_passes test) (when (leaves_range a b) (at_line 307 (line_at unit b.start))) (when (leaves_block a b) (at_line 307 (line_at unit a.start)))
      ∙ (λ i. any-when test 307 (line_at unit b.start) (leaves_range a b) i || any-when test 307 (line_at unit a.start) (leaves_block a b) i)

  out_of : (a : nesting.DoRange) → list_any (line_passes test) (flat_map (crossing unit a) blocks) ≡ (list_any (leaves_passes a) blocks || range_passes a)
  out_of a =
      any-flat (line_passes test) (crossing unit a) blocks
      ∙ (any-same (λ b. list_any (line_passes test) (crossing unit a b)) (λ b. leaves_passes a b || (leaves_block a b && range_test a)) (crossing_passes a) blocks
      ∙ (any-or (leaves_passes a) (λ b. leaves_block a b && range_test a) blocks
      ∙ ap (λ c. list_any (leaves_passes a) blocks || c) (any-and (leaves_block a) (range_test a) blocks)))

  out_pass : list_any (λ a. list_any (line_passes test) (flat_map (crossing unit a) blocks)) doings ≡ (list_any block_passes blocks || list_any range_passes doings)
  out_pass =
      any-same (λ a. list_any (line_passes test) (flat_map (crossing unit a) blocks)) (λ a. list_any (leaves_passes a) blocks || range_passes a) out_of doings
      ∙ (any-or (λ a. list_any (leaves_passes a) blocks) range_passes doings
      ∙ ap (λ c. c || list_any range_passes doings)
      (any-turned leaves_passes doings blocks
      ∙ any-same (λ b. list_any (λ a. leaves_passes a b) doings) block_passes (λ b. any-and (λ a. leaves_range a b) (block_test b) doings) blocks))

  pub nesting-passes : list_any (line_passes test) (nesting_violations unit)
      ≡ ((list_any crossed_passes doings || list_any shared_passes doings) || (list_any block_passes blocks || list_any range_passes doings))
  nesting-passes =
      any-flat (line_passes test) (λ (a : nesting.DoRange). flat_map (range_pair unit a) doings ++ flat_map (crossing unit a) blocks) doings
      ∙ (any-same (λ a. list_any (line_passes test) (flat_map (range_pair unit a) doings ++ flat_map (crossing unit a) blocks))
      (λ a. list_any (line_passes test) (flat_map (range_pair unit a) doings) || list_any (line_passes test) (flat_map (crossing unit a) blocks))
      (λ a. list_any-append (line_passes test) (flat_map (range_pair unit a) doings) (flat_map (crossing unit a) blocks)) doings
      ∙ (any-or (λ a. list_any (line_passes test) (flat_map (range_pair unit a) doings)) (λ a. list_any (line_passes test) (flat_map (crossing unit a) blocks)) doings
      ∙ (λ i. pairs_pass i || out_pass i)))

-- ---- block IFs that leave a range

ends_before : (t : ℕ) (o : Option ℕ) → nat_lt t (unwrap_or o 0) ≡ ends_after t o
ends_before t None = grind (arith, nat_tests)
ends_before t (Some e) = refl

one-leaves_range : (r : DoRange) (b : BlockIf)
    → (nat_lt r.start b.start && (nat_le b.start r.terminal && nat_lt r.terminal (unwrap_or b.end 0))) ≡ leaves_range (do_range r) (block_if b)
one-leaves_range r b =
    ap (λ t. nat_lt r.start b.start && (nat_le b.start r.terminal && t)) (ends_before r.terminal b.end)
    ∙ and-assoc (nat_lt r.start b.start) (nat_le b.start r.terminal) (ends_after r.terminal b.end)

-- ---- ranges that leave a block

within : (low high e : ℕ) → is_within (suc low) (suc high) e ≡ is_between low high e
within low high e = grind (arith, nat_tests)

abbrev answers : DoRange → BlockEnd → Bool
answers r e = nat_lt e.start r.start && is_within (suc r.start) (suc r.terminal) e.end

first_end : (a b c : Bool) → ((a && b) || (a && c)) ≡ (a && (b || c))
first_end true b c = refl
first_end false b c = refl

any-ends : (r : DoRange) (start : ℕ) (ds : List ℕ) (o : Option ℕ)
    → list_any (answers r) (ends_from start ds o) ≡ (nat_lt start r.start && (list_any (is_between r.start r.terminal) ds || end_between r.start r.terminal o))
any-ends r start [] None = sym (and-false (nat_lt start r.start))
any-ends r start [] (Some e) = or-false (nat_lt start r.start && is_within (suc r.start) (suc r.terminal) e) ∙ ap (λ t. nat_lt start r.start && t) (within r.start r.terminal e)
any-ends r start (d ∷ ds) o =
    ap (λ t. (nat_lt start r.start && t) || list_any (answers r) (ends_from start ds o)) (within r.start r.terminal d)
    ∙ (ap (λ t. (nat_lt start r.start && is_between r.start r.terminal d) || t) (any-ends r start ds o)
    ∙ (first_end (nat_lt start r.start) (is_between r.start r.terminal d) (list_any (is_between r.start r.terminal) ds || end_between r.start r.terminal o)
    ∙ ap (λ t. nat_lt start r.start && t) (sym (or-assoc (is_between r.start r.terminal d) (list_any (is_between r.start r.terminal) ds) (end_between r.start r.terminal o)))))

one-leaves_block : (r : DoRange) (b : BlockIf) → list_any (answers r) (ends_in b) ≡ leaves_block (do_range r) (block_if b)
one-leaves_block r b =
    any-ends r b.start b.divisions.items b.end
    ∙ ap (λ t. nat_lt b.start r.start && (t || end_between r.start r.terminal b.end)) (sym (any-reverse (is_between r.start r.terminal) b.divisions.items))

values_in-all : (bs : List BlockIf) → flat_map values_in bs ≡ map value_of_end (flat_map ends_in bs)
values_in-all [] = refl
values_in-all (b ∷ bs) = ap (λ es. values_in b ++ es) (values_in-all bs) ∙ sym (map-append value_of_end (ends_in b) (flat_map ends_in bs))

-- ---- all four

module _ (unit : List Statement) (rs : List DoRange) (cs : List BlockIf) (ranges : map do_range rs ≡ ranges_of unit) (closed : reverse (map block_if cs) ≡ (block_ifs_of unit).closed) where
  -- tests of ranges and of block IFs, as the code keeps them
  any-ranges : (test : nesting.DoRange → Bool) → list_any (λ r. test (do_range r)) rs ≡ list_any test (ranges_of unit)
  any-ranges test = sym (any-map test do_range rs) ∙ ap (list_any test) ranges

  any-blocks : (test : nesting.BlockIf → Bool) → list_any (λ b. test (block_if b)) cs ≡ list_any test (block_ifs_of unit).closed
  any-blocks test = sym (any-map test block_if cs) ∙ (sym (any-reverse test (map block_if cs)) ∙ ap (list_any test) closed)

  -- ---- all lines

  module _ (test : ℕ → Bool) where
    lines-crossed : list_any test (lines_asked (map value_of_range rs ++ map (question_of_range unit) rs)) ≡ list_any (crossed_passes unit test) (ranges_of unit)
    lines-crossed =
        lines-asked (λ (r : DoRange). r.start) (λ (r : DoRange). r.terminal) (λ (r : DoRange). r.start) (λ (r : DoRange). r.start) (λ (r : DoRange). r.terminal) (λ (r : DoRange). line_at unit r.start) test rs rs
        ∙ (any-same (λ (b : DoRange). list_any (λ (a : DoRange). ranges_cross (do_range a) (do_range b)) rs && test (line_at unit b.start)) (λ b. crossed_passes unit test (do_range b))
        (λ b. ap (λ t. t && test (line_at unit b.start)) (any-ranges (λ a. ranges_cross a (do_range b)))) rs
        ∙ any-ranges (crossed_passes unit test))

    lines-left_by_block : list_any test (lines_asked (map value_of_range rs ++ map (question_of_block unit) cs)) ≡ list_any (block_passes unit test) (block_ifs_of unit).closed
    lines-left_by_block =
        lines-asked (λ (r : DoRange). r.start) (λ (r : DoRange). r.terminal) (λ (b : BlockIf). b.start) (λ (b : BlockIf). b.start) (λ (b : BlockIf). unwrap_or b.end 0) (λ (b : BlockIf). line_at unit b.start) test rs cs
        ∙ (any-same
        (λ (b : BlockIf). list_any (λ (a : DoRange). nat_lt a.start b.start && (nat_le b.start a.terminal && nat_lt a.terminal (unwrap_or b.end 0))) rs && test (line_at unit b.start))
        (λ b. block_passes unit test (block_if b))
        (λ b. ap (λ t. t && test (line_at unit b.start))
        (any-same (λ (a : DoRange). nat_lt a.start b.start && (nat_le b.start a.terminal && nat_lt a.terminal (unwrap_or b.end 0))) (λ a. leaves_range (do_range a) (block_if b)) (λ a. one-leaves_range a b) rs
        ∙ any-ranges (λ a. leaves_range a (block_if b)))) cs
        ∙ any-blocks (block_passes unit test))

    lines-left_by_range : list_any test (lines_asked (flat_map values_in cs ++ map (question_in_range unit) rs)) ≡ list_any (range_passes unit test) (ranges_of unit)
    lines-left_by_range =
        ap (λ es. list_any test (lines_asked (es ++ map (question_in_range unit) rs))) (values_in-all cs)
        ∙ (lines-asked (λ (e : BlockEnd). e.start) (λ (e : BlockEnd). e.end) (λ (r : DoRange). r.start) (λ (r : DoRange). suc r.start) (λ (r : DoRange). suc r.terminal) (λ (r : DoRange). line_at unit r.start) test (flat_map ends_in cs) rs
        ∙ (any-same (λ (r : DoRange). list_any (answers r) (flat_map ends_in cs) && test (line_at unit r.start)) (λ r. range_passes unit test (do_range r))
        (λ r. ap (λ t. t && test (line_at unit r.start))
        (any-flat (answers r) ends_in cs
        ∙ (any-same (λ b. list_any (answers r) (ends_in b)) (λ b. leaves_block (do_range r) (block_if b)) (one-leaves_block r) cs
        ∙ any-blocks (leaves_block (do_range r))))) rs
        ∙ any-ranges (range_passes unit test)))

    lines-in_another : list_any test (lines_shared unit (λ x. None) (map do_range rs)) ≡ list_any (shared_passes unit test) (ranges_of unit)
    lines-in_another =
        ap (λ ds. list_any test (lines_shared unit (λ x. None) ds)) ranges
        ∙ lines-pass unit (ranges_of unit) test 0 [] (ranges_of unit) tt (rising unit) (λ t. refl)

    regrouped : (o c s b r : Bool) → ((((o || c) || s) || b) || r) ≡ (o || ((c || s) || (b || r)))
    regrouped o c s b r =
        or-assoc ((o || c) || s) b r ∙ (or-assoc (o || c) s (b || r) ∙ (or-assoc o c (s || (b || r)) ∙ ap (λ t. o || t) (sym (or-assoc c s (b || r)))))

    pub crossing-told : (old a b c d : List ℕ) → list_any test a ≡ (list_any test old || list_any test (lines_asked (map value_of_range rs ++ map (question_of_range unit) rs)))
        → b ≡ a ++ lines_shared unit (λ x. None) (map do_range rs)
        → list_any test c ≡ (list_any test b || list_any test (lines_asked (map value_of_range rs ++ map (question_of_block unit) cs)))
        → list_any test d ≡ (list_any test c || list_any test (lines_asked (flat_map values_in cs ++ map (question_in_range unit) rs)))
        → list_any test d ≡ (list_any test old || list_any (line_passes test) (nesting_violations unit))
    crossing-told old a b c d ae be ce de =
        let first : list_any test a ≡ (list_any test old || list_any (crossed_passes unit test) (ranges_of unit)) = ae ∙ ap (λ t. list_any test old || t) lines-crossed in
        let second : list_any test b ≡ (list_any test a || list_any (shared_passes unit test) (ranges_of unit)) =
        ap (list_any test) be ∙ (list_any-append test a (lines_shared unit (λ x. None) (map do_range rs)) ∙ ap (λ t. list_any test a || t) lines-in_another) in
        let third : list_any test c ≡ (list_any test b || list_any (block_passes unit test) (block_ifs_of unit).closed) = ce ∙ ap (λ t. list_any test b || t) lines-left_by_block in
        let fourth : list_any test d ≡ (list_any test c || list_any (range_passes unit test) (ranges_of unit)) = de ∙ ap (λ t. list_any test c || t) lines-left_by_range in
        (λ i. (fourth ∙ (λ j. (third ∙ (λ k. (second ∙ (λ l. first l || list_any (shared_passes unit test) (ranges_of unit))) k || list_any (block_passes unit test) (block_ifs_of unit).closed)) j || list_any (range_passes unit test) (ranges_of unit))) i)
        ∙ (regrouped (list_any test old) (list_any (crossed_passes unit test) (ranges_of unit)) (list_any (shared_passes unit test) (ranges_of unit)) (list_any (block_passes unit test) (block_ifs_of unit).closed)
        (list_any (range_passes unit test) (ranges_of unit))
        ∙ ap (λ t. list_any test old || t) (sym (nesting-passes unit test)))
