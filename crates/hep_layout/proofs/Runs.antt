-- What names stand for is kept in consecutive cells.
use Rattle.hep_layout.proofs.Telling.{part-address}
use Rattle.std.proofs.Common.{◌≡◌, inl, inr, ℕ, zero, suc, ◌+◌, ◌<◌, ◌≤◌, Bool, true, false, List, [], ◌∷◌, ◌++◌, length, Some, None, refl, sym, ap, ◌∙◌, subst, arith, ◌&&◌, if◌then◌else◌, not, map, slice_get}
use Rattle.std.specs.List.{filter, flat_map, list_any}
use Rattle.std.proofs.lemmas.Bool.{and_parts, not-true, or_cases}
use Rattle.std.proofs.lemmas.List.Folds.{list_any-append}
use Rattle.std.proofs.lemmas.Option.{none-some}
use Rattle.hep_machine.specs.Words.{CommonBlock, Declarator, Name, Statement, is_among, index_among, Units, unit_at, dummies_of, cells_of, cells_of_all, cells_before, BlockName, block_holding, block_of, blocks_of, blocks_of_unit, common_block, entries_under, is_common, is_constant_name, is_block_among, names_declared}
use Rattle.hep_machine.specs.Words.{names_in_block, same_block, with_blocks, dummy_at, Frame, Layout, block_cells, with_frame, activation_of, unit_of, Activation, Location, local, common, State, further, is_local, locals_of, names_of, is_owned}
use Rattle.hep_source.proofs.NameTests.{equal_names}
use Rattle.hep_machine.proofs.Locations.{equal_blocks, block-self, block-stays}
use Rattle.hep_arena.specs.Gaps.{frame_among, without}
use Rattle.hep_layout.specs.Words.{address, frame_from, IsLaid, argument, variable, common_row, first_in, first_in_common, first_of_part, size_in, RunsFrom}
use Rattle.hep_layout.proofs.CommonRows.{name-first, unit-cells}
use Rattle.hep_layout.proofs.FrameRows.{argument-first, variable-first}
use Rattle.hep_layout.proofs.Memory.{address-entered, address-left}
use Rattle.hep_layout.proofs.Rows.{place-at}

-- ---- sequences

-- cells further, and then more, are as many cells further as both
pub further-further : (at : Location) (m n : ℕ) → further (further at m) n ≡ further at (m + n)
further-further (local a x i) m n = ap (local a x) (omega arith)
further-further (common b k) m n = ap (common b) (omega arith)

-- from a later element on, and fewer
pub runs-from : (program : Units) (s : State) (layout : Layout) (start : Location) (count first m fewer : ℕ) → RunsFrom program s layout start count first → m + fewer ≤ count → RunsFrom program s layout (further start m) fewer (first + m)
runs-from program s layout start count first m fewer h le k less =
    ap (address program s layout) (further-further start m k) ∙ (h (m + k) (omega (arith, le, less)) ∙ ap (λ n. Some n) (omega arith))

pub runs-fewer : (program : Units) (s : State) (layout : Layout) (start : Location) (count first fewer : ℕ) → RunsFrom program s layout start count first → fewer ≤ count → RunsFrom program s layout start fewer first
runs-fewer program s layout start count first fewer h le k less = h k (omega (arith, le, less))

-- where frames enter and leave
pub runs-entered : (program : Units) (s t : State) (x : Activation) (layout : Layout) (entered cells : ℕ) (start : Location) (count first : ℕ) → IsLaid program s cells layout → t.activations ≡ s.activations ++ x ∷ []
    → RunsFrom program s layout start count first → RunsFrom program t (with_frame layout (frame_from program t (length t.activations) entered)) start count first
runs-entered program s t x layout entered cells start count first laid more h k less = address-entered program s t x layout entered more cells (further start k) (first + k) laid (h k less)

pub owned-further : (a : ℕ) (at : Location) (k : ℕ) → is_owned a (further at k) ≡ is_owned a at
owned-further a (local b x i) k = refl
owned-further a (common b i) k = refl

pub runs-left : (program : Units) (s : State) (a cells : ℕ) (layout : Layout) (start : Location) (count first : ℕ) → IsLaid program s cells layout → is_owned a start ≡ false
    → RunsFrom program s layout start count first → RunsFrom program s (without a layout) start count first
runs-left program s a cells layout start count first laid other h k less =
    address-left program s a layout cells (further start k) laid (owned-further a start k ∙ other) ∙ h k less

-- ---- variables of an activation

-- what passes a test
pub among-filter : (x : Name) (test : Name → Bool) (xs : List Name) → is_among x (filter test xs) ≡ true → test x ≡ true
among-filter x test [] h = absurd cc
among-filter x test (y ∷ ys) h = grind (arith, among-filter x test ys, equal_names x y)

not-among : (x : Name) (xs : List Name) → is_among x xs ≡ false → index_among x xs ≡ None
not-among x [] h = refl
not-among x (y ∷ ys) h = grind (arith, not-among x ys)

pub local-index : (unit : List Statement) (x : Name) → is_among x (locals_of unit) ≡ true → index_among x (dummies_of unit) ≡ None
local-index unit x h =
    not-among x (dummies_of unit) (not-true (is_among x (dummies_of unit)) (and_parts (not (is_among x (dummies_of unit))) (not (is_common unit x) && not (is_constant_name unit x)) (among-filter x (is_local unit) (names_of unit) h)).0)

pub runs-local : (program : Units) (s : State) (layout : Layout) (a : ℕ) (x : Name) (f : Frame) → frame_among a layout ≡ Some f → is_among x (locals_of (unit_at program (unit_of s a))) ≡ true
    → RunsFrom program s layout (local a x 1) (cells_of (unit_at program (unit_of s a)) x) (f.first + first_of_part (unit_at program (unit_of s a)) (variable x))
runs-local program s layout a x f framed h k less =
    let unit = unit_at program (unit_of s a) in
    let next : 1 + k ≡ suc k = omega arith in
    rw (next, local-index unit x h) (part-address program s layout a f (variable x) k (cells_of unit x) framed (variable-first unit x h).sized less)

-- the value of an expression
pub runs-value : (program : Units) (s : State) (layout : Layout) (a : ℕ) (x : Name) (i : ℕ) (f : Frame) → frame_among a layout ≡ Some f → index_among x (dummies_of (unit_at program (unit_of s a))) ≡ Some i
    → is_owned a (dummy_at (activation_of s a).dummies i).start ≡ true → RunsFrom program s layout (local a x 1) 1 (f.first + first_of_part (unit_at program (unit_of s a)) (argument x))
runs-value program s layout a x i f framed e owned zero less =
    rw (e, owned) (part-address program s layout a f (argument x) 0 2 framed (argument-first (unit_at program (unit_of s a)) x i e).sized (omega arith))
runs-value program s layout a x i f framed e owned (suc k) less = absurd (omega (arith, less))

-- ---- variables in COMMON

pub block-turned : (b c : BlockName) → same_block b c ≡ true → same_block c b ≡ true
block-turned b c e = ap (same_block c) (equal_blocks b c e) ∙ block-self c

-- the names before one, and its own cells, are no more than those of all
before-within : (unit : List Statement) (x : Name) (xs : List Name) → is_among x xs ≡ true → cells_before unit x xs + cells_of unit x ≤ cells_of_all unit xs
before-within unit x [] h = absurd cc
before-within unit x (y ∷ ys) h = grind (arith, before-within unit x ys, equal_names x y)

-- a name is among those of its block
among-append : (x : Name) (ds es : List Declarator) → is_among x (names_declared ds) ≡ true → is_among x (names_declared (ds ++ es)) ≡ true
among-append x [] es h = absurd cc
among-append x (d ∷ ds) es h = grind (arith, among-append x ds es)

-- a name of the last declarators is among those of both lists
among-behind : (x : Name) (ds es : List Declarator) → is_among x (names_declared es) ≡ true → is_among x (names_declared (ds ++ es)) ≡ true
among-behind x [] es h = h
among-behind x (d ∷ ds) es h = grind (arith, among-behind x ds es h)

-- a name that a block holds is among the entries under the block
pub held-under : (x : Name) (b : BlockName) (cs : List CommonBlock) → block_holding x cs ≡ Some b → is_among x (names_declared (entries_under b cs)) ≡ true
held-under x b [] e = absurd (none-some b e)
held-under x b (c ∷ cs) e = grind (arith, held-under x b cs, block-self b, among-append x c.entries (entries_under b cs), among-behind x c.entries (entries_under b cs))

-- ---- the blocks of a program

-- a block of this name is among blocks of COMMON statements
abbrev is_named : BlockName → List CommonBlock → Bool
is_named b cs = list_any (λ (c : CommonBlock). same_block b (block_of c)) cs

held-named : (x : Name) (b : BlockName) (cs : List CommonBlock) → block_holding x cs ≡ Some b → is_named b cs ≡ true
held-named x b [] e = absurd (none-some b e)
held-named x b (c ∷ cs) e = grind (arith, held-named x b cs, block-self b)

named-unit : (program : Units) (u : ℕ) (unit : List Statement) (b : BlockName) → slice_get program u ≡ Some unit → is_named b (blocks_of_unit unit) ≡ true → is_named b (flat_map blocks_of_unit program) ≡ true
named-unit [] u unit b e h = absurd (none-some unit e)
named-unit (v ∷ vs) zero unit b e h = grind (arith, list_any-append (λ (c : CommonBlock). same_block b (block_of c)) (blocks_of_unit v) (flat_map blocks_of_unit vs))
named-unit (v ∷ vs) (suc u) unit b e h = grind (arith, list_any-append (λ (c : CommonBlock). same_block b (block_of c)) (blocks_of_unit v) (flat_map blocks_of_unit vs), named-unit vs u unit b e h)

block-added : (b : BlockName) (bs : List BlockName) (cs : List CommonBlock) → is_named b cs ≡ true → is_block_among b (with_blocks bs cs) ≡ true
block-added b bs [] h = absurd cc
block-added b bs (c ∷ cs) h =
    let more = if is_block_among (block_of c) bs then bs else bs ++ block_of c ∷ [] in
    elim (or_cases (same_block b (block_of c)) (is_named b cs) h) [
      | inl here ↦ block-stays b more cs (grind (arith, here, equal_blocks b (block_of c), list_any-append (same_block b) bs (block_of c ∷ [])))
      | inr rest ↦ block-added b more cs rest
    ]

block-size : (program : Units) (b : BlockName) (bs : List BlockName) → is_block_among b bs ≡ true → size_in (same_block b) (map (λ (c : BlockName). (c, block_cells program c)) bs) ≡ block_cells program b
block-size program b [] h = absurd cc
block-size program b (c ∷ cs) h = grind (arith, block-size program b cs, equal_blocks b c)

pub common-size : (program : Units) (u : ℕ) (unit : List Statement) (x : Name) (b : BlockName) → slice_get program u ≡ Some unit → common_block unit x ≡ Some b → size_in (same_block b) (common_row program) ≡ block_cells program b
common-size program u unit x b e h =
    block-size program b (blocks_of program) (block-added b [] (flat_map blocks_of_unit program) (named-unit program u unit b e (held-named x b (blocks_of_unit unit) h)))

pub runs-common : (program : Units) (s : State) (layout : Layout) (u : ℕ) (unit : List Statement) (x : Name) (b : BlockName) → slice_get program u ≡ Some unit → common_block unit x ≡ Some b
    → RunsFrom program s layout (common b (1 + cells_before unit x (names_in_block unit b))) (cells_of unit x) (first_in_common program unit b x)
runs-common program s layout u unit x b e h k less =
    ap (λ i. address program s layout (common b i)) (let next : 1 + cells_before unit x (names_in_block unit b) + k ≡ suc (cells_before unit x (names_in_block unit b) + k) = omega arith in next)
    ∙ (place-at (same_block b) (cells_before unit x (names_in_block unit b) + k) (common_row program) (subst (λ n. cells_before unit x (names_in_block unit b) + k < n) (sym (common-size program u unit x b e h)) within) ∙ ap (λ n. Some n) sum)
  where
    within : cells_before unit x (names_in_block unit b) + k < block_cells program b
    within = omega (arith, before-within unit x (names_in_block unit b) (held-under x b (blocks_of_unit unit) h), unit-cells program u unit b e, less)

    sum : first_in (same_block b) (common_row program) + (cells_before unit x (names_in_block unit b) + k) ≡ first_in_common program unit b x + k
    sum = let names = name-first program unit b x in omega (arith, names)
