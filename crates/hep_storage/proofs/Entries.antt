-- What the COMMON statements of a unit say in one row: the same blocks, and the same cells in each.
use Rattle.std.proofs.Common.{◌≡◌, ℕ, ◌+◌, Bool, true, false, ◌||◌, List, [], ◌∷◌, ◌++◌, map, refl, ap, sym, ◌∙◌, append_assoc, arith, if◌then◌else◌}
use Rattle.std.proofs.lemmas.Grind.{flat_map-append}
use Rattle.hep_machine.specs.Words.{CommonBlock, Declarator, Name, Statement, cells_of, cells_of_all, BlockName, same_block, block_of, blocks_in, blocks_of_unit, names_in_block, entries_under, names_declared, is_block_among, with_blocks}
use Rattle.hep_machine.proofs.Locations.{block-self}
use Rattle.hep_storage.specs.declared.common.CommonItem.{CommonItem}
use Rattle.hep_storage.specs.Lengths.{entry_of, entries_listed, entries_in_list, entries_in_lists, entries_of, cells_of_entry, cells_in_block, with_block, with_blocks_of}
use Rattle.hep_names.proofs.News.{declared-append}
use Rattle.std.proofs.lemmas.Bool.{or_right}

-- ---- cells

ahead-of-none : (n : ℕ) → n ≡ 0 + n
ahead-of-none n = omega arith

pub grouped : (a b c d : ℕ) → d ≡ b + c → a + d ≡ (a + b) + c
grouped a b c d e = omega (arith, e)

cells-append : (unit : List Statement) (b : BlockName) (es fs : List CommonItem) → cells_in_block unit b (es ++ fs) ≡ cells_in_block unit b es + cells_in_block unit b fs
cells-append unit b [] fs = ahead-of-none (cells_in_block unit b fs)
cells-append unit b (e ∷ es) fs =
    grouped (if same_block e.block b then cells_of_entry unit e else 0) (cells_in_block unit b es) (cells_in_block unit b fs) (cells_in_block unit b (es ++ fs)) (cells-append unit b es fs)

-- the cells of two lists of names are those of the first and those of the second
pub all-append : (unit : List Statement) (xs ys : List Name) → cells_of_all unit (xs ++ ys) ≡ cells_of_all unit xs + cells_of_all unit ys
all-append unit [] ys = ahead-of-none (cells_of_all unit ys)
all-append unit (x ∷ xs) ys = grouped (cells_of unit x) (cells_of_all unit xs) (cells_of_all unit ys) (cells_of_all unit (xs ++ ys)) (all-append unit xs ys)

nothing : (t : Bool) → ◌≡◌ {A = ℕ} (if t then 0 else 0) 0
nothing true = refl
nothing false = refl

names-cells : (unit : List Statement) (k b : BlockName) (ds : List Declarator)
    → cells_in_block unit b (map (entry_of k) ds) ≡ (if same_block k b then cells_of_all unit (names_declared ds) else 0)
names-cells unit k b [] = sym (nothing (same_block k b))
names-cells unit k b (d ∷ ds) =
    ap (λ n. (if same_block k b then cells_of unit d.occurrence.name else 0) + n) (names-cells unit k b ds) ∙ by (same_block k b)
  where
    by : (t : Bool) → (if t then cells_of unit d.occurrence.name else 0) + (if t then cells_of_all unit (names_declared ds) else 0)
        ≡ (if t then cells_of unit d.occurrence.name + cells_of_all unit (names_declared ds) else 0)
    by true = refl
    by false = refl

list-cells : (unit : List Statement) (k b : BlockName) (ds : List Declarator)
    → cells_in_block unit b (entries_listed k ds) ≡ (if same_block k b then cells_of_all unit (names_declared ds) else 0)
list-cells unit k b [] = ap (λ n. n + 0) (nothing (same_block k b)) ∙ sym (nothing (same_block k b))
list-cells unit k b (d ∷ ds) = names-cells unit k b (d ∷ ds)

lists-cells : (unit : List Statement) (b : BlockName) (cs : List CommonBlock) → cells_in_block unit b (entries_in_lists cs) ≡ cells_of_all unit (names_declared (entries_under b cs))
lists-cells unit b [] = refl
lists-cells unit b (c ∷ cs) =
    let rest = cells_of_all unit (names_declared (entries_under b cs)) in
    cells-append unit b (entries_in_list c) (entries_in_lists cs)
    ∙ (ap (λ n. cells_in_block unit b (entries_in_list c) + n) (lists-cells unit b cs) ∙ (ap (λ n. n + rest) (list-cells unit (block_of c) b c.entries) ∙ by (same_block (block_of c) b)))
  where
    by : (t : Bool) → (if t then cells_of_all unit (names_declared c.entries) else 0) + cells_of_all unit (names_declared (entries_under b cs))
        ≡ cells_of_all unit (names_declared (if t then c.entries ++ entries_under b cs else entries_under b cs))
    by true = sym (ap (cells_of_all unit) (declared-append c.entries (entries_under b cs)) ∙ all-append unit (names_declared c.entries) (names_declared (entries_under b cs)))
    by false = sym (ahead-of-none (cells_of_all unit (names_declared (entries_under b cs))))

pub unit-cells : (unit : List Statement) (b : BlockName) → cells_in_block unit b (entries_of unit) ≡ cells_of_all unit (names_in_block unit b)
unit-cells unit b = lists-cells unit b (blocks_of_unit unit)

-- ---- blocks

blocks-append : (bs : List BlockName) (es fs : List CommonItem) → with_blocks_of bs (es ++ fs) ≡ with_blocks_of (with_blocks_of bs es) fs
blocks-append bs [] fs = refl
blocks-append bs (e ∷ es) fs = blocks-append (with_block bs e.block) es fs

-- a block that is there isn't added again
names-blocks : (k : BlockName) (bs : List BlockName) (ds : List Declarator) → is_block_among k bs ≡ true → with_blocks_of bs (map (entry_of k) ds) ≡ bs
names-blocks k bs [] h = refl
names-blocks k bs (d ∷ ds) h = ap (λ t. with_blocks_of (if t then bs else bs ++ k ∷ []) (map (entry_of k) ds)) h ∙ names-blocks k bs ds h

pub last-among : (b : BlockName) (bs : List BlockName) → is_block_among b (bs ++ b ∷ []) ≡ true
last-among b [] = ap (λ t. t || false) (block-self b)
last-among b (c ∷ cs) = or_right (same_block b c) (is_block_among b (cs ++ b ∷ [])) (last-among b cs)

pub this-among : (b : BlockName) (bs : List BlockName) → is_block_among b (with_block bs b) ≡ true
this-among b bs = by (is_block_among b bs) refl
  where
    by : (t : Bool) → is_block_among b bs ≡ t → is_block_among b (if t then bs else bs ++ b ∷ []) ≡ true
    by true e = e
    by false e = last-among b bs

list-blocks : (k : BlockName) (bs : List BlockName) (ds : List Declarator) → with_blocks_of bs (entries_listed k ds) ≡ with_block bs k
list-blocks k bs [] = refl
list-blocks k bs (d ∷ ds) = names-blocks k (with_block bs k) ds (this-among k bs)

lists-blocks : (bs : List BlockName) (cs : List CommonBlock) → with_blocks_of bs (entries_in_lists cs) ≡ with_blocks bs cs
lists-blocks bs [] = refl
lists-blocks bs (c ∷ cs) =
    blocks-append bs (entries_in_list c) (entries_in_lists cs)
    ∙ (ap (λ ks. with_blocks_of ks (entries_in_lists cs)) (list-blocks (block_of c) bs c.entries)
    ∙ lists-blocks (with_block bs (block_of c)) cs)

pub unit-blocks : (bs : List BlockName) (unit : List Statement) → with_blocks_of bs (entries_of unit) ≡ with_blocks bs (blocks_of_unit unit)
unit-blocks bs unit = lists-blocks bs (blocks_of_unit unit)

pub with_blocks-append : (bs : List BlockName) (cs ds : List CommonBlock) → with_blocks bs (cs ++ ds) ≡ with_blocks (with_blocks bs cs) ds
with_blocks-append bs [] ds = refl
with_blocks-append bs (c ∷ cs) ds = with_blocks-append (with_block bs (block_of c)) cs ds

-- ---- statements

-- one statement more
pub entries-turn : (found next whole : List CommonItem) (s : Statement) (ss more : List Statement) → found ++ entries_of ss ≡ whole → next ≡ found ++ entries_in_lists (blocks_in s.form) → ss ≡ s ∷ more
    → next ++ entries_of more ≡ whole
entries-turn found next whole s ss more h n d =
    ap (λ es. es ++ entries_of more) n
    ∙ (append_assoc found (entries_in_lists (blocks_in s.form)) (entries_of more)
    ∙ (ap (λ es. found ++ es) (sym (flat_map-append entries_in_list (blocks_in s.form) (blocks_of_unit more)))
    ∙ (ap (λ ts. found ++ entries_of ts) (sym d) ∙ h)))
