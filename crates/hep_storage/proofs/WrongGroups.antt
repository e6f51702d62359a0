-- The lines of all units that have a block otherwise, as each test of a line sees them; and the loops that gather them.
use Rattle.std.proofs.Common.{◌≡◌, ◌<◌, ◌≤◌, ◌+◌, ℕ, Bool, true, false, not, ◌&&◌, ◌||◌, Option, Some, None, is_some, option_to_list, List, [], ◌∷◌, ◌++◌, drop, length, get_or, refl, ap, sym, subst, ◌∙◌, if◌then◌else◌}
use Rattle.std.specs.List.{flat_map, list_any}
use Rattle.std.proofs.lemmas.List.{drop_all, drop_more}
use Rattle.std.proofs.lemmas.List.Folds.{list_any-append}
use Rattle.hep_machine.specs.Words.{Statement, Units, BlockName, same_block, is_block_among, blocks_of}
use Rattle.hep_machine.proofs.Locations.{equal_blocks}
use Rattle.hep_source.proofs.Tests.{any-flat, any-or, or-assoc, or-false, or-true, or-turned, or-again, and-split, any-same, any-nothing, any-turned}
use Rattle.hep_conditions.specs.Common as conditions
use Rattle.hep_conditions.specs.declared.violation.Violation.{Violation}
use Rattle.hep_conditions.specs.Words.{at_line, line_when, when}
use Rattle.hep_storage.specs.Agreement.{AreAmong, Summed, differs_from, line_after, nothing_summed, passes, passes_after, passes_left, passes_of_blocks, with_block}
use Rattle.hep_storage.specs.BlockContents.{Block, block_in}
use Rattle.hep_storage.proofs.Differing.{contents-differ, differs, differs-more, no-pair, nothing-differs, pair, pair_of_blocks, summed_over}
use Rattle.hep_storage.proofs.RunLists.{block-among, block-joined, fewer-line, unit-among}

-- ---- tests

regrouped : (a b l d : Bool) → (a || ((l || b) || d)) ≡ ((a || b) || (l || d))
regrouped true b l d = refl
regrouped false b true d = sym (or-true b)
regrouped false b false d = refl

-- ---- each unit with each one after it, or with each one before it

module _ {U : Type 0} (line : U → U → Bool) where
  abbrev any_pair : List U → Bool
  any_pair [] = false
  any_pair (u ∷ us) = list_any (line u) us || any_pair us

  abbrev any_later : List U → List U → Bool
  any_later before [] = false
  any_later before (w ∷ ws) = list_any (λ u. line u w) before || any_later (w ∷ before) ws

  pairs-later : (before us : List U) → any_later before us ≡ (list_any (λ u. list_any (line u) us) before || any_pair us)
  pairs-later before [] = sym (or-false (list_any (λ u. false) before) ∙ any-nothing before)
  pairs-later before (w ∷ ws) =
      ap (λ b. list_any (λ u. line u w) before || b) (pairs-later (w ∷ before) ws)
      ∙ (regrouped (list_any (λ u. line u w) before) (list_any (λ u. list_any (line u) ws) before) (list_any (line w) ws) (any_pair ws)
      ∙ ap (λ b. b || any_pair (w ∷ ws)) (sym (any-or (λ u. line u w) (λ u. list_any (line u) ws) before)))

module _ (test : ℕ → Bool) where
  abbrev by : Violation → Bool
  by v = test v.line

  any-line : (b : Bool) (line : ℕ) → passes test (line_when b line) ≡ (b && test line)
  any-line true line = or-false (test line)
  any-line false line = refl

  any-when : (b : Bool) (line : ℕ) → list_any by (when b (at_line 305 line)) ≡ (b && test line)
  any-when true line = or-false (test line)
  any-when false line = refl

  abbrev hit : BlockName → List Statement → List Statement → Bool
  hit b unit later = passes test (pair b unit later)

  told-differs : (b : BlockName) (unit later : List Statement) → list_any by (conditions.block_differs b unit later) ≡ hit b unit later
  told-differs b unit later = by_lines (conditions.last_line b unit) (conditions.last_line b later) refl refl
    where
      by_lines : (k l : Option ℕ) → conditions.last_line b unit ≡ k → conditions.last_line b later ≡ l → list_any by (conditions.block_differs b unit later) ≡ hit b unit later
      by_lines None l e f = rw e refl
      by_lines (Some k) None e f = rw (e, f) refl
      by_lines (Some k) (Some line) e f =
          rw (e, f)
          (any-when (not (conditions.same_contents b (conditions.positions_of_block unit b) (conditions.positions_of_block later b))) line
          ∙ (ap (λ d. d && test line) (contents-differ b (conditions.positions_of_block unit b) (conditions.positions_of_block later b))
          ∙ sym (any-line _ line)))

  -- a unit with each of those before
  against : (b : BlockName) (later : List Statement) (before : Units) → list_any (λ unit. hit b unit later) before ≡ passes test (line_after b (summed_over b before) (block_in later b))
  against b later before = by_block (block_in later b) before
    where
      more : (d : Block) (c : Option Block) (s : Summed) → (passes test (pair_of_blocks b c (Some d)) || passes test (line_after b s (Some d))) ≡ passes test (line_after b (with_block c s) (Some d))
      more d None s = refl
      more d (Some c) s =
          (λ i. any-line (differs b c.list d.list) d.line i || any-line (differs_from b s d.list) d.line i)
          ∙ (and-split (differs b c.list d.list) (differs_from b s d.list) (test d.line)
          ∙ (ap (λ t. t && test d.line) (differs-more b c.list d.list s) ∙ sym (any-line _ d.line)))

      by_block : (d : Option Block) (us : Units) → list_any (λ unit. passes test (pair_of_blocks b (block_in unit b) d)) us ≡ passes test (line_after b (summed_over b us) d)
      by_block None [] = refl
      by_block None (u ∷ us) = ap (λ o. passes test o || list_any (λ unit. passes test (pair_of_blocks b (block_in unit b) None)) us) (no-pair b (block_in u b)) ∙ by_block None us
      by_block (Some d) [] = sym (any-line (differs_from b nothing_summed d.list) d.line ∙ ap (λ t. t && test d.line) (nothing-differs b d.list))
      by_block (Some d) (u ∷ us) = ap (λ t. passes test (pair_of_blocks b (block_in u b) (Some d)) || t) (by_block (Some d) us) ∙ more d (block_in u b) (summed_over b us)

  later-units : (b : BlockName) (before us : Units) → passes_after test b (summed_over b before) us ≡ any_later (hit b) before us
  later-units b before [] = refl
  later-units b before (u ∷ us) =
      ap (λ t. t || passes_after test b (summed_over b (u ∷ before)) us) (sym (against b u before))
      ∙ ap (λ t. list_any (λ unit. hit b unit u) before || t) (later-units b (u ∷ before) us)

  -- ---- the whole

  abbrev hit_among : List BlockName → List Statement → List Statement → Bool
  hit_among bs unit later = list_any (λ b. hit b unit later) bs

  told-differing : (bs : List BlockName) (us : Units) → list_any by (conditions.differing bs us) ≡ any_pair (hit_among bs) us
  told-differing bs [] = refl
  told-differing bs (u ∷ us) =
      list_any-append by (flat_map (conditions.blocks_differ bs u) us) (conditions.differing bs us)
      ∙ (λ i. (any-flat by (conditions.blocks_differ bs u) us
      ∙ any-same (λ w. list_any by (conditions.blocks_differ bs u w)) (hit_among bs u)
      (λ w. any-flat by (λ b. conditions.block_differs b u w) bs ∙ any-same (λ b. list_any by (conditions.block_differs b u w)) (λ b. hit b u w) (λ b. told-differs b u w) bs) us) i
      || told-differing bs us i)

  by-blocks : (bs : List BlockName) (us : Units) → any_pair (hit_among bs) us ≡ list_any (λ b. any_pair (hit b) us) bs
  by-blocks bs [] = sym (any-nothing bs)
  by-blocks bs (u ∷ us) =
      (λ i. any-turned (λ w b. hit b u w) us bs i || by-blocks bs us i) ∙ sym (any-or (λ b. list_any (hit b u) us) (λ b. any_pair (hit b) us) bs)

  pub told-common : (program : Units) → passes_of_blocks test (blocks_of program) (λ b. nothing_summed) program ≡ list_any by (conditions.common_violations program)
  told-common program =
      sym
      (told-differing (blocks_of program) program
      ∙ (by-blocks (blocks_of program) program
      ∙ any-same (λ b. any_pair (hit b) program) (λ b. passes_after test b nothing_summed program) (λ b. sym (pairs-later (hit b) [] program) ∙ sym (later-units b [] program)) (blocks_of program)))

-- ---- the loop over units

-- no unit is left
pub units-done : (test : ℕ → Bool) (bs : List BlockName) (s : BlockName → Summed) (units : Units) (i : ℕ) (found total : Bool) → length units ≤ i
    → (found || passes_of_blocks test bs s (drop i units)) ≡ total → found ≡ total
units-done test bs s units i found total k h =
    sym (or-false found) ∙ (ap (λ t. found || t) (sym (ap (λ us. passes_of_blocks test bs s us) (drop_all i units k) ∙ any-nothing bs)) ∙ h)

-- the blocks of a unit that a table has
pub blocks-more : (test : ℕ → Bool) (s t : BlockName → Summed) (items units : Units) (i : ℕ) (d u : List Statement) (found : BlockName → Option Block) (before after : Bool)
    → items ≡ units → i < length items → u ≡ get_or items i d → ((b : BlockName) → found b ≡ block_in u b)
    → ((b : BlockName) → t b ≡ with_block (found b) (s b)) → ((bs : List BlockName) → AreAmong bs found → after ≡ (before || passes_left test bs s found))
    → (after || passes_of_blocks test (blocks_of units) t (drop (i + 1) units)) ≡ (before || passes_of_blocks test (blocks_of units) s (drop i units))
blocks-more test s t items units i d u found before after same lt is f h e =
    let bs = blocks_of units in
    let rest = drop (i + 1) units in
    let more : i < length units = subst (λ us. i < length us) same lt in
    let at : u ≡ get_or units i d = is ∙ ap (λ us. get_or us i d) same in
    let all : drop i units ≡ u ∷ rest = drop_more units i d more ∙ ap (λ v. v ∷ rest) (sym at) in
    let read : found ≡ block_in u = λ k b. f b k in
    let next : t ≡ (λ b. with_block (found b) (s b)) = λ k b. h b k in
    let there = e bs (λ b k. unit-among units i d more b (ap (λ v. is_some (block_in v b)) (sym at) ∙ (ap is_some (sym (f b)) ∙ k))) in
    let here = λ (b : BlockName). passes test (line_after b (s b) (block_in u b)) in
    let later = λ (b : BlockName). passes_after test b (with_block (block_in u b) (s b)) rest in
    rw (all, there, next, read) (or-assoc before (list_any here bs) (list_any later bs) ∙ ap (λ w. before || w) (sym (any-or here later bs)))

-- ---- one block less

module _ (line : BlockName → Bool) where
  absorbed : (b : BlockName) (bs : List BlockName) → is_block_among b bs ≡ true → (line b || list_any line bs) ≡ list_any line bs
  absorbed b [] h = absurd cc
  absorbed b (c ∷ cs) h = by_name (same_block b c) refl (λ m. absorbed b cs m)
    where
      by_name : (e : Bool) → same_block b c ≡ e → (is_block_among b cs ≡ true → (line b || list_any line cs) ≡ list_any line cs)
          → (line b || (line c || list_any line cs)) ≡ (line c || list_any line cs)
      by_name true e k = ap (λ d. line d || (line c || list_any line cs)) (equal_blocks b c e) ∙ or-again (line c) (list_any line cs)
      by_name false e k = or-turned (line b) (line c) (list_any line cs) ∙ ap (λ t. line c || t) (k (ap (λ t. t || is_block_among b cs) (sym e) ∙ h))

module _ (k : BlockName) (f g : BlockName → Bool) (other : (b : BlockName) → g b ≡ (if same_block k b then false else f b)) where
  without : (bs : List BlockName) → (f k || list_any g bs) ≡ (f k || list_any f bs)
  without [] = refl
  without (b ∷ bs) = ap (λ t. f k || (t || list_any g bs)) (other b) ∙ by_name (same_block k b) refl (without bs)
    where
      by_name : (e : Bool) → same_block k b ≡ e → (f k || list_any g bs) ≡ (f k || list_any f bs)
          → (f k || ((if e then false else f b) || list_any g bs)) ≡ (f k || (f b || list_any f bs))
      by_name true e h = h ∙ (sym (or-again (f k) (list_any f bs)) ∙ ap (λ d. f k || (f d || list_any f bs)) (equal_blocks k b e))
      by_name false e h = or-turned (f k) (f b) (list_any g bs) ∙ (ap (λ t. f b || t) h ∙ or-turned (f b) (f k) (list_any f bs))

  taken : (bs : List BlockName) → is_block_among k bs ≡ true → (f k || list_any g bs) ≡ list_any f bs
  taken bs h = without bs ∙ absorbed f k bs h

module _ (test : ℕ → Bool) (k : BlockName) (s t : BlockName → Summed) (left fewer : BlockName → Option Block) (less : (b : BlockName) → fewer b ≡ (if same_block k b then None else left b))
    (more : (b : BlockName) → t b ≡ (if same_block k b then with_block (left k) (s k) else s b)) where
  abbrev of_all : BlockName → Bool
  of_all b = passes test (line_after b (s b) (left b))

  abbrev of_fewer : BlockName → Bool
  of_fewer b = passes test (line_after b (t b) (fewer b))

  fewer-pass : (b : BlockName) → of_fewer b ≡ (if same_block k b then false else of_all b)
  fewer-pass b = ap (passes test) (fewer-line k s t left fewer less more b) ∙ by_name (same_block k b)
    where
      by_name : (e : Bool) → passes test (if e then None else line_after b (s b) (left b)) ≡ (if e then false else of_all b)
      by_name true = refl
      by_name false = refl

  block-more : (bs : List BlockName) (found next : List ℕ) → AreAmong bs left → next ≡ found ++ option_to_list (line_after k (s k) (left k))
      → (list_any test next || passes_left test bs t fewer) ≡ (list_any test found || passes_left test bs s left)
  block-more bs found next h n =
      ap (λ b. b || passes_left test bs t fewer) (ap (list_any test) n ∙ list_any-append test found (option_to_list (line_after k (s k) (left k))))
      ∙ (or-assoc (list_any test found) (of_all k) (passes_left test bs t fewer) ∙ ap (λ b. list_any test found || b) (there (left k) refl))
    where
      there : (l : Option Block) → left k ≡ l → (of_all k || passes_left test bs t fewer) ≡ passes_left test bs s left
      there None e = without k of_all of_fewer fewer-pass bs ∙ ap (λ o. passes test (line_after k (s k) o) || passes_left test bs s left) e
      there (Some c) e = taken k of_all of_fewer fewer-pass bs (h k (ap is_some e))

-- ---- the loop over the blocks of a unit

-- some of the blocks are left; the others were added, and gave these lines
pub record Gathered (s t : BlockName → Summed) (all left : BlockName → Option Block) (old found : List ℕ) : Type 0 where
  pub joined : (b : BlockName) → with_block (left b) (t b) ≡ with_block (all b) (s b)
  pub among : (bs : List BlockName) → AreAmong bs all → AreAmong bs left
  pub lines : (bs : List BlockName) → AreAmong bs all → (test : ℕ → Bool) → (list_any test found || passes_left test bs t left) ≡ (list_any test old || passes_left test bs s all)

pub gathered-start : {s : BlockName → Summed} {all : BlockName → Option Block} {old : List ℕ} → Gathered s s all all old old
gathered-start = record { joined = λ b. refl; among = λ bs h. h; lines = λ bs h test. refl }

pub gathered-next : {s t next : BlockName → Summed} {all left fewer : BlockName → Option Block} {old found after : List ℕ} (k : BlockName) (line : Option ℕ)
    → Gathered s t all left old found → ((b : BlockName) → fewer b ≡ (if same_block k b then None else left b))
    → ((b : BlockName) → next b ≡ (if same_block k b then with_block (left k) (t k) else t b)) → line ≡ line_after k (t k) (left k) → after ≡ found ++ option_to_list line
    → Gathered s next all fewer old after
gathered-next {t = t} {next = next} {left = left} {fewer = fewer} {found = found} {after = after} k line h less more e a =
    record {
      joined = λ b. block-joined k t next left fewer less more b ∙ h.joined b;
      among = λ bs m. block-among k t next left fewer less more bs (h.among bs m);
      lines = λ bs m test.
          block-more test k t next left fewer less more bs found after (h.among bs m) (a ∙ ap (λ o. found ++ option_to_list o) e) ∙ h.lines bs m test;
    }

none-left : (test : ℕ → Bool) (bs : List BlockName) (s : BlockName → Summed) (left : BlockName → Option Block) → ((b : BlockName) → left b ≡ None) → passes_left test bs s left ≡ false
none-left test bs s left h = (λ i. passes_left test bs s (λ b. h b i)) ∙ any-nothing bs

pub gathered-end : {s t : BlockName → Summed} {all left : BlockName → Option Block} {old found : List ℕ} → Gathered s t all left old found → ((b : BlockName) → left b ≡ None)
    → ((b : BlockName) → t b ≡ with_block (all b) (s b)) × ((bs : List BlockName) → AreAmong bs all → (test : ℕ → Bool) → list_any test found ≡ (list_any test old || passes_left test bs s all))
gathered-end {t = t} {left = left} {found = found} h none = (
  λ b. ap (λ o. with_block o (t b)) (sym (none b)) ∙ h.joined b,
  λ bs m test. sym (or-false (list_any test found)) ∙ (ap (λ b. list_any test found || b) (sym (none-left test bs t left none)) ∙ h.lines bs m test),
)

pub passes-same : (test : ℕ → Bool) (bs : List BlockName) (s t : BlockName → Summed) (left : BlockName → Option Block) → ((b : BlockName) → s b ≡ t b) → passes_left test bs s left ≡ passes_left test bs t left
passes-same test bs s t left h = λ i. passes_left test bs (λ b. h b i) left
