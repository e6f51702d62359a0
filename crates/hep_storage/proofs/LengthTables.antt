-- The table of the lengths of common blocks, entry by entry and unit by unit.
use Rattle.std.proofs.Common.{◌≡◌, ℕ, ◌+◌, ◌*◌, ◌^◌, ◌<◌, ◌≤◌, max, nat_eq, Bool, true, false, true≢false, ◌||◌, Option, Some, None, is_some, List, [], ◌∷◌, ◌++◌, length, drop, append_assoc, refl, ap, sym, ◌∙◌, arith, if◌then◌else◌, eq-eqb}
use Rattle.std.proofs.lemmas.List.{drop_all, length-append}
use Rattle.std.proofs.lemmas.Bool.Decides.{nat_tests}
use Rattle.std.specs.List.{list_any, flat_map}
use Rattle.std.specs.Option.{option_eq}
use Rattle.hep_machine.specs.Words.{name_eq, Units, Statement, cells_of_all, BlockName, same_block, blocks_of_unit, names_in_block, is_block_among, with_blocks, block_cells}
use Rattle.hep_names.proofs.BlockNames.{block_eq-is}
use Rattle.hep_machine.proofs.Locations.{equal_blocks}
use Rattle.hep_storage.specs.declared.common.CommonItem.{CommonItem}
use Rattle.hep_storage.specs.declared.common.Length.{Length}
use Rattle.hep_storage.specs.Lengths.{entries_of, entries_of_program, cells_of_entry, cells_in_block, with_block, with_blocks_of, cells_so_far, greatest_length, lengthened, AreKept}
use Rattle.hep_storage.proofs.Entries.{this-among, with_blocks-append}
use Rattle.hep_storage.proofs.Beginnings.{one-more}

-- ---- the test that a set of blocks makes is the definitions' test

among-is : (b : BlockName) (bs : List BlockName) → list_any (option_eq name_eq b) bs ≡ is_block_among b bs
among-is b [] = refl
among-is b (c ∷ cs) = ap (λ t. t || list_any (option_eq name_eq b) cs) (block_eq-is b c) ∙ ap (λ t. same_block b c || t) (among-is b cs)

pub block-inserted : (bs : List BlockName) (b : BlockName) → (if list_any (option_eq name_eq b) bs then bs else bs ++ b ∷ []) ≡ with_block bs b
block-inserted bs b = ap (λ t. if t then bs else bs ++ b ∷ []) (among-is b bs)

-- ---- blocks that have a length

-- a block that is there isn't added again
pub known-block : (bs : List BlockName) (b : BlockName) → is_block_among b bs ≡ true → bs ≡ with_block bs b
known-block bs b h = sym (ap (λ t. if t then bs else bs ++ b ∷ []) h)

among-append : (b k : BlockName) (bs : List BlockName) → is_block_among b bs ≡ true → is_block_among b (bs ++ k ∷ []) ≡ true
among-append b k [] h = absurd (true≢false (sym h))
among-append b k (c ∷ cs) h = by (same_block b c) h (among-append b k cs)
  where
    by : (t : Bool) → (t || is_block_among b cs) ≡ true → (is_block_among b cs ≡ true → is_block_among b (cs ++ k ∷ []) ≡ true) → (t || is_block_among b (cs ++ k ∷ [])) ≡ true
    by true g rest = refl
    by false g rest = rest g

among-more : (b k : BlockName) (bs : List BlockName) → is_block_among b bs ≡ true → is_block_among b (with_block bs k) ≡ true
among-more b k bs h = by (is_block_among k bs)
  where
    by : (t : Bool) → is_block_among b (if t then bs else bs ++ k ∷ []) ≡ true
    by true = h
    by false = among-append b k bs h

pub kept-next : (bs ks : List BlockName) (k b : BlockName) (l : Length) (old : BlockName → Option Length) (new : Option Length) → AreKept bs old → ks ≡ with_block bs k
    → new ≡ (if same_block k b then Some l else old b) → is_some new ≡ true → is_block_among b ks ≡ true
kept-next bs ks k b l old new kept e n h = ap (is_block_among b) e ∙ by (same_block k b) refl (sym (ap is_some n) ∙ h)
  where
    by : (t : Bool) → same_block k b ≡ t → is_some (if t then Some l else old b) ≡ true → is_block_among b (with_block bs k) ≡ true
    by true f g = ap (λ c. is_block_among c (with_block bs k)) (sym (equal_blocks k b f)) ∙ this-among k bs
    by false f g = among-more b k bs (kept b g)

-- ---- one entry more of a unit

-- what a table has of a block after it was lengthened
abbrev next : ℕ → ℕ → Bool → Option Length → Option Length
next unit n t o = if t then Some (lengthened o unit n) else o

-- a table in which one block was lengthened
pub lengthened-at : (unit n : ℕ) (k b : BlockName) (old new : BlockName → Option Length) → new b ≡ (if same_block k b then Some (lengthened (old k) unit n) else old b)
    → new b ≡ (if same_block k b then Some (lengthened (old b) unit n) else old b)
lengthened-at unit n k b old new h = h ∙ by (same_block k b) refl
  where
    by : (t : Bool) → same_block k b ≡ t → (if t then Some (lengthened (old k) unit n) else old b) ≡ (if t then Some (lengthened (old b) unit n) else old b)
    by true e = ap (λ c. Some (lengthened (old c) unit n)) (equal_blocks k b e)
    by false e = refl

so_far-next : (unit n : ℕ) (t : Bool) (o : Option Length) → cells_so_far unit (next unit n t o) ≡ cells_so_far unit o + (if t then n else 0)
so_far-next unit n true o = ap (λ s. if s then cells_so_far unit o + n else 0) (eq-eqb unit unit refl)
so_far-next unit n false o = omega arith

pub cells-next : (unit : List Statement) (number n : ℕ) (b : BlockName) (e : CommonItem) (es fs : List CommonItem) (o new : Option Length) (whole : ℕ)
    → cells_so_far number o + cells_in_block unit b es ≡ whole → es ≡ e ∷ fs → n ≡ cells_of_entry unit e → new ≡ (if same_block e.block b then Some (lengthened o number n) else o)
    → cells_so_far number new + cells_in_block unit b fs ≡ whole
cells-next unit number n b e es fs o new whole h d k i =
    one-more (cells_so_far number o) (if same_block e.block b then cells_of_entry unit e else 0) (cells_in_block unit b fs) (cells_so_far number new) whole
    (ap (cells_so_far number) i ∙ (so_far-next number n (same_block e.block b) o ∙ ap (λ m. cells_so_far number o + (if same_block e.block b then m else 0)) k))
    (ap (λ gs. cells_so_far number o + cells_in_block unit b gs) (sym d) ∙ h)

longer : (g s n m : ℕ) → m ≡ max g s → max m (s + n) ≡ max g (s + n)
longer g s n m e = omega (arith, e)

pub longest-next : (number n g : ℕ) (t : Bool) (o new : Option Length) → greatest_length o ≡ max g (cells_so_far number o) → new ≡ (if t then Some (lengthened o number n) else o)
    → greatest_length new ≡ max g (cells_so_far number new)
longest-next number n g t o new h i = ap greatest_length i ∙ (by t ∙ sym (ap (λ p. max g (cells_so_far number p)) i))
  where
    by : (s : Bool) → greatest_length (next number n s o) ≡ max g (cells_so_far number (next number n s o))
    by true = longer g (cells_so_far number o) n (greatest_length o) h ∙ ap (λ b. max g (if b then cells_so_far number o + n else 0)) (sym (eq-eqb number number refl))
    by false = h

pub unread-next : (number n v : ℕ) (t : Bool) (o new : Option Length) → number + 1 ≤ v → cells_so_far v o ≡ 0 → new ≡ (if t then Some (lengthened o number n) else o) → cells_so_far v new ≡ 0
unread-next number n v t o new lt h i = ap (cells_so_far v) i ∙ by t
  where
    by : (s : Bool) → cells_so_far v (next number n s o) ≡ 0
    by true =
        let differ : nat_eq number v ≡ false = grind (arith, nat_tests, lt) in
        ap (λ b. if b then cells_so_far number o + n else 0) differ
    by false = h

few : (s n i m : ℕ) (t : Bool) → s ≤ 2 ^ 32 * i → n < 2 ^ 32 → m ≡ s + (if t then n else 0) → m ≤ 2 ^ 32 * (i + 1)
few s n i m true h k e = omega (arith, h, k, e)
few s n i m false h k e = omega (arith, h, e)

pub bounded-next : (number n i : ℕ) (t : Bool) (o new : Option Length) → cells_so_far number o ≤ 2 ^ 32 * i → n < 2 ^ 32 → new ≡ (if t then Some (lengthened o number n) else o)
    → cells_so_far number new ≤ 2 ^ 32 * (i + 1)
bounded-next number n i t o new h k e = few (cells_so_far number o) n i (cells_so_far number new) t h k (ap (cells_so_far number) e ∙ so_far-next number n t o)

-- ---- a unit from its first entry to its last

pub blocks-entry : (bs ks whole : List BlockName) (e : CommonItem) (es fs : List CommonItem) → with_blocks_of bs es ≡ whole → es ≡ e ∷ fs → ks ≡ with_block bs e.block → with_blocks_of ks fs ≡ whole
blocks-entry bs ks whole e es fs h d k = ap (λ cs. with_blocks_of cs fs) k ∙ (ap (with_blocks_of bs) (sym d) ∙ h)

pub start-longest : (g s : ℕ) → s ≡ 0 → g ≡ max g s
start-longest g s h = omega (arith, h)

pub start-few : (s : ℕ) → s ≡ 0 → s ≤ 2 ^ 32 * 0
start-few s h = omega (arith, h)

-- the blocks once no entry is left
pub end-blocks : (bs whole : List BlockName) (i : ℕ) (es : List CommonItem) → length es ≤ i → with_blocks_of bs (drop i es) ≡ whole → bs ≡ whole
end-blocks bs whole i es k h = ap (with_blocks_of bs) (sym (drop_all i es k)) ∙ h

-- the cells of a block once no entry is left
pub end-cells : (unit : List Statement) (b : BlockName) (s i : ℕ) (es : List CommonItem) → length es ≤ i → s + cells_in_block unit b (drop i es) ≡ cells_in_block unit b es → s ≡ cells_in_block unit b es
end-cells unit b s i es k h =
    let e : cells_in_block unit b (drop i es) ≡ 0 = ap (cells_in_block unit b) (drop_all i es k) in
    omega (arith, h, e)

-- ---- one unit more of a program

regrouped-max : (g c r m all : ℕ) → m ≡ max g c → max g (max c r) ≡ all → max m r ≡ all
regrouped-max g c r m all e h = omega (arith, e, h)

pub lengths-next : (b : BlockName) (unit : List Statement) (us vs : Units) (o new : Option Length) (whole : ℕ) → max (greatest_length o) (block_cells us b) ≡ whole → us ≡ unit ∷ vs
    → greatest_length new ≡ max (greatest_length o) (cells_of_all unit (names_in_block unit b)) → max (greatest_length new) (block_cells vs b) ≡ whole
lengths-next b unit us vs o new whole h d e =
    regrouped-max (greatest_length o) (cells_of_all unit (names_in_block unit b)) (block_cells vs b) (greatest_length new) whole e (ap (λ ws. max (greatest_length o) (block_cells ws b)) (sym d) ∙ h)

-- what the units so far say, and the rest
pub row-next : (row next whole : List CommonItem) (unit : List Statement) (us vs : Units) → row ++ entries_of_program us ≡ whole → us ≡ unit ∷ vs → next ≡ row ++ entries_of unit
    → next ++ entries_of_program vs ≡ whole
row-next row next whole unit us vs h d e =
    ap (λ es. es ++ entries_of_program vs) e ∙ (append_assoc row (entries_of unit) (entries_of_program vs) ∙ (ap (λ ws. row ++ entries_of_program ws) (sym d) ∙ h))

pub row-end : (row : List CommonItem) (i : ℕ) (us : Units) → length us ≤ i → row ++ entries_of_program (drop i us) ≡ entries_of_program us → length (entries_of_program us) ≤ length row
row-end row i us k h =
    let e : length (row ++ []) ≡ length (entries_of_program us) = ap length (sym (ap (λ ws. row ++ entries_of_program ws) (drop_all i us k)) ∙ h) in
    omega (arith, e, length-append row [])

pub blocks-next : (bs ks whole : List BlockName) (unit : List Statement) (us vs : Units) → with_blocks bs (flat_map blocks_of_unit us) ≡ whole → us ≡ unit ∷ vs
    → ks ≡ with_blocks bs (blocks_of_unit unit) → with_blocks ks (flat_map blocks_of_unit vs) ≡ whole
blocks-next bs ks whole unit us vs h d e =
    ap (λ cs. with_blocks cs (flat_map blocks_of_unit vs)) e
    ∙ (sym (with_blocks-append bs (blocks_of_unit unit) (flat_map blocks_of_unit vs)) ∙ (ap (λ ws. with_blocks bs (flat_map blocks_of_unit ws)) (sym d) ∙ h))

-- before the first unit
pub start-length : (o : Option Length) (n : ℕ) → o ≡ None → max (greatest_length o) n ≡ n
start-length o n h = ap (λ p. max (greatest_length p) n) h ∙ none-before n
  where
    none-before : (m : ℕ) → max 0 m ≡ m
    none-before m = omega arith

pub start-unread : (o : Option Length) (v : ℕ) → o ≡ None → cells_so_far v o ≡ 0
start-unread o v h = ap (cells_so_far v) h

-- behind the last unit
pub end-length : (b : BlockName) (g i : ℕ) (us : Units) → length us ≤ i → max g (block_cells (drop i us) b) ≡ block_cells us b → g ≡ block_cells us b
end-length b g i us k h =
    let e : block_cells (drop i us) b ≡ 0 = ap (λ ws. block_cells ws b) (drop_all i us k) in
    omega (arith, h, e)
