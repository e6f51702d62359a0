-- Where names begin in common blocks, by one pass over all names in COMMON: X3.9-1978, 8.3.3.
use Rattle.std.proofs.Common.{◌≡◌, ℕ, zero, suc, ◌+◌, Bool, true, false, List, [], ◌∷◌, ◌++◌, map, Option, Some, None, refl, ap, sym, ◌∙◌, subst, arith, if◌then◌else◌, slice_get}
use Rattle.std.specs.List.{flat_map}
use Rattle.std.specs.Option.{option_map}
use Rattle.std.proofs.lemmas.Option.{same_Some, none-some}
use Rattle.hep_machine.specs.Words.{CommonBlock, Declarator, Name, Statement, is_among, same_name, Units, cells_of, BlockName, block_holding, block_of, blocks_of, blocks_of_unit, common_block, entries_under, is_block_among, names_declared, same_block, with_blocks}
use Rattle.hep_accepted_laws.proofs.Members.{Has, has_flat, has_more}
use Rattle.hep_layout.specs.Words.{Row, block_row, first_in}
use Rattle.hep_layout.proofs.Rows.{has_key}
use Rattle.hep_storage.specs.Starts.{narrowed}
use Rattle.hep_places.specs.declared.block_offsets.NameInBlock.{NameInBlock}
use Rattle.hep_places.specs.StorageStarts.{entries_in, entries_of, entry_of, lengthened, name_row, no_length, offset_among}
use Rattle.hep_places.proofs.Narrowed.{narrowed-more, narrowed-zero}
use Rattle.hep_storage.proofs.Entries.{last-among}
use Rattle.hep_machine.proofs.Locations.{block-stays, block-self}

abbrev pub row_under : List Statement → BlockName → List NameInBlock → Row Name
row_under unit b [] = []
row_under unit b (e ∷ es) = if same_block e.block b then (e.name, cells_of unit e.name) ∷ row_under unit b es else row_under unit b es

abbrev pub block_among : Name → List NameInBlock → Option BlockName
block_among x [] = None
block_among x (e ∷ es) = if same_name x e.name then Some e.block else block_among x es

-- ---- one pass

abbrev narrowed_at : (BlockName → ℕ) → BlockName → ℕ
narrowed_at lengths b = narrowed (lengths b)

abbrev longer : (BlockName → ℕ) → BlockName → ℕ → BlockName → ℕ
longer lengths b n c = if same_block b c then lengths c + n else lengths c

lengthened-at : (lengths : BlockName → ℕ) (b : BlockName) (n : ℕ) (c : BlockName) → lengthened (narrowed_at lengths) b n c ≡ narrowed_at (longer lengths b n) c
lengthened-at lengths b n c = by (same_block b c) where
  by : (t : Bool) → (if t then narrowed (narrowed (lengths c) + n) else narrowed (lengths c)) ≡ narrowed (if t then lengths c + n else lengths c)
  by true = narrowed-more (lengths c) n
  by false = refl

none-more : (n m : ℕ) → m ≡ 0 → n ≡ n + m
none-more n m e = omega (arith, e)

pub grouped : (a b c : ℕ) → a + b + c ≡ a + (b + c)
grouped a b c = omega arith

first-after : (unit : List Statement) (x : Name) (e : NameInBlock) (es : List NameInBlock) (lengths : BlockName → ℕ) → same_name x e.name ≡ false → (b : BlockName)
    → longer lengths e.block (cells_of unit e.name) b + first_in (same_name x) (row_under unit b es) ≡ lengths b + first_in (same_name x) (row_under unit b (e ∷ es))
first-after unit x e es lengths t b = by (same_block e.block b) where
  by : (u : Bool) → (if u then lengths b + cells_of unit e.name else lengths b) + first_in (same_name x) (row_under unit b es)
      ≡ lengths b + first_in (same_name x) (if u then (e.name, cells_of unit e.name) ∷ row_under unit b es else row_under unit b es)
  by true =
      grouped (lengths b) (cells_of unit e.name) (first_in (same_name x) (row_under unit b es))
      ∙ ap (λ s. lengths b + (if s then 0 else cells_of unit e.name + first_in (same_name x) (row_under unit b es))) (sym t)
  by false = refl

first-here : (unit : List Statement) (x : Name) (e : NameInBlock) (es : List NameInBlock) → same_name x e.name ≡ true → first_in (same_name x) (row_under unit e.block (e ∷ es)) ≡ 0
first-here unit x e es t =
    ap (λ u. first_in (same_name x) (if u then (e.name, cells_of unit e.name) ∷ row_under unit e.block es else row_under unit e.block es)) (block-self e.block)
    ∙ ap (λ s. if s then 0 else cells_of unit e.name + first_in (same_name x) (row_under unit e.block es)) t

offset-is : (unit : List Statement) (x : Name) (es : List NameInBlock) (lengths : BlockName → ℕ)
    → offset_among unit (narrowed_at lengths) es x ≡ option_map (λ b. narrowed (lengths b + first_in (same_name x) (row_under unit b es))) (block_among x es)
offset-is unit x [] lengths = refl
offset-is unit x (e ∷ es) lengths = by (same_name x e.name) refl (offset-is unit x es (longer lengths e.block (cells_of unit e.name))) where
  by : (t : Bool) → same_name x e.name ≡ t
      → offset_among unit (narrowed_at (longer lengths e.block (cells_of unit e.name))) es x
      ≡ option_map (λ b. narrowed (longer lengths e.block (cells_of unit e.name) b + first_in (same_name x) (row_under unit b es))) (block_among x es)
      → (if t then Some (narrowed (lengths e.block)) else offset_among unit (lengthened (narrowed_at lengths) e.block (cells_of unit e.name)) es x)
      ≡ option_map (λ b. narrowed (lengths b + first_in (same_name x) (row_under unit b (e ∷ es)))) (if t then Some e.block else block_among x es)
  by true t rest = ap (λ n. Some (narrowed n)) (none-more (lengths e.block) (first_in (same_name x) (row_under unit e.block (e ∷ es))) (first-here unit x e es t))
  by false t rest =
      ap (λ (f : BlockName → ℕ). offset_among unit f es x) (λ i b. lengthened-at lengths e.block (cells_of unit e.name) b i)
      ∙ (rest ∙ ap (λ (f : BlockName → ℕ). option_map f (block_among x es)) (λ i b. narrowed (first-after unit x e es lengths t b i)))

-- ---- entries, block by block

block-one : (x : Name) (k : BlockName) (ds : List Declarator) (es : List NameInBlock) → block_among x (map (entry_of k) ds ++ es) ≡ (if is_among x (names_declared ds) then Some k else block_among x es)
block-one x k [] es = refl
block-one x k (d ∷ ds) es = by (same_name x d.occurrence.name) (block-one x k ds es) where
  by : (t : Bool) → block_among x (map (entry_of k) ds ++ es) ≡ (if is_among x (names_declared ds) then Some k else block_among x es)
      → (if t then Some k else block_among x (map (entry_of k) ds ++ es)) ≡ (if (if t then true else is_among x (names_declared ds)) then Some k else block_among x es)
  by true h = refl
  by false h = h

block-is : (x : Name) (cs : List CommonBlock) → block_among x (entries_in cs) ≡ block_holding x cs
block-is x [] = refl
block-is x (c ∷ cs) = block-one x (block_of c) c.entries (entries_in cs) ∙ ap (λ o. if is_among x (names_declared c.entries) then Some (block_of c) else o) (block-is x cs)

row-one : (unit : List Statement) (b k : BlockName) (ds : List Declarator) (es : List NameInBlock)
    → row_under unit b (map (entry_of k) ds ++ es) ≡ (if same_block k b then name_row unit (names_declared ds) else []) ++ row_under unit b es
row-one unit b k [] es = by (same_block k b) where
  by : (t : Bool) → row_under unit b es ≡ (if t then [] else []) ++ row_under unit b es
  by true = refl
  by false = refl
row-one unit b k (d ∷ ds) es = by (same_block k b) (row-one unit b k ds es) where
  by : (t : Bool) → row_under unit b (map (entry_of k) ds ++ es) ≡ (if t then name_row unit (names_declared ds) else []) ++ row_under unit b es
      → (if t then (d.occurrence.name, cells_of unit d.occurrence.name) ∷ row_under unit b (map (entry_of k) ds ++ es) else row_under unit b (map (entry_of k) ds ++ es))
      ≡ (if t then (d.occurrence.name, cells_of unit d.occurrence.name) ∷ name_row unit (names_declared ds) else []) ++ row_under unit b es
  by true h = ap (λ es. (d.occurrence.name, cells_of unit d.occurrence.name) ∷ es) h
  by false h = h

row-append : (unit : List Statement) (ds es : List Declarator) → name_row unit (names_declared (ds ++ es)) ≡ name_row unit (names_declared ds) ++ name_row unit (names_declared es)
row-append unit [] es = refl
row-append unit (d ∷ ds) es = ap (λ row. (d.occurrence.name, cells_of unit d.occurrence.name) ∷ row) (row-append unit ds es)

row-is : (unit : List Statement) (b : BlockName) (cs : List CommonBlock) → row_under unit b (entries_in cs) ≡ name_row unit (names_declared (entries_under b cs))
row-is unit b [] = refl
row-is unit b (c ∷ cs) = row-one unit b (block_of c) c.entries (entries_in cs) ∙ by (same_block (block_of c) b) (row-is unit b cs) where
  by : (t : Bool) → row_under unit b (entries_in cs) ≡ name_row unit (names_declared (entries_under b cs)) → (if t then name_row unit (names_declared c.entries) else []) ++ row_under unit b (entries_in cs) ≡ name_row unit (names_declared (if t then c.entries ++ entries_under b cs else entries_under b cs))
  by true h = ap (λ row. name_row unit (names_declared c.entries) ++ row) h ∙ sym (row-append unit c.entries (entries_under b cs))
  by false h = h

-- ---- the offset of a name

pub none-before : (f : ℕ) → 0 + f ≡ f
none-before f = omega arith

pub offsets-are : (unit : List Statement) (x : Name) → offset_among unit no_length (entries_of unit) x ≡ option_map (λ b. narrowed (first_in (same_name x) (block_row unit b))) (common_block unit x)
offsets-are unit x =
    ap (λ (f : BlockName → ℕ). offset_among unit f (entries_of unit) x) (λ i b. sym narrowed-zero i)
    ∙ (offset-is unit x (entries_of unit) (λ b. 0)
    ∙ (ap (λ (f : BlockName → ℕ). option_map f (block_among x (entries_of unit))) (λ i b. narrowed ((none-before (first_in (same_name x) (row_under unit b (entries_of unit))) ∙ ap (first_in (same_name x)) (row-is unit b (blocks_of_unit unit))) i))
    ∙ ap (option_map (λ b. narrowed (first_in (same_name x) (block_row unit b)))) (block-is x (blocks_of_unit unit))))

-- a name in a block is in its row
key-under : (unit : List Statement) (x : Name) (b : BlockName) (es : List NameInBlock) → block_among x es ≡ Some b → has_key (same_name x) (row_under unit b es) ≡ true
key-under unit x b [] e = absurd (none-some b e)
key-under unit x b (f ∷ es) e = by (same_name x f.name) refl e (key-under unit x b es) where
  later : (u : Bool) → has_key (same_name x) (row_under unit b es) ≡ true → same_name x f.name ≡ false → has_key (same_name x) (if u then (f.name, cells_of unit f.name) ∷ row_under unit b es else row_under unit b es) ≡ true
  later true h t = ap (λ s. if s then true else has_key (same_name x) (row_under unit b es)) t ∙ h
  later false h t = h

  by : (t : Bool) → same_name x f.name ≡ t → (if t then Some f.block else block_among x es) ≡ Some b → (block_among x es ≡ Some b → has_key (same_name x) (row_under unit b es) ≡ true) → has_key (same_name x) (row_under unit b (f ∷ es)) ≡ true
  by true t e rest =
      let same : same_block f.block b ≡ true = ap (same_block f.block) (sym (same_Some f.block b e)) ∙ block-self f.block in
      ap (λ u. has_key (same_name x) (if u then (f.name, cells_of unit f.name) ∷ row_under unit b es else row_under unit b es)) same
      ∙ ap (λ s. if s then true else has_key (same_name x) (row_under unit b es)) t
  by false t e rest = later (same_block f.block b) (rest e) t

pub key-in-block : (unit : List Statement) (x : Name) (b : BlockName) → common_block unit x ≡ Some b → has_key (same_name x) (block_row unit b) ≡ true
key-in-block unit x b e = ap (has_key (same_name x)) (sym (row-is unit b (blocks_of_unit unit))) ∙ key-under unit x b (entries_of unit) (block-is x (blocks_of_unit unit) ∙ e)

-- ---- the block of a name is one of the program

pub held-by : (x : Name) (b : BlockName) (cs : List CommonBlock) → block_holding x cs ≡ Some b → (c : CommonBlock) × Has cs c × (block_of c ≡ b) × (is_among x (names_declared c.entries) ≡ true)
held-by x b [] e = absurd (none-some b e)
held-by x b (c ∷ cs) e = by (is_among x (names_declared c.entries)) refl e (held-by x b cs) where
  by : (t : Bool) → is_among x (names_declared c.entries) ≡ t → (if t then Some (block_of c) else block_holding x cs) ≡ Some b
      → (block_holding x cs ≡ Some b → (d : CommonBlock) × Has cs d × (block_of d ≡ b) × (is_among x (names_declared d.entries) ≡ true))
      → (d : CommonBlock) × Has (c ∷ cs) d × (block_of d ≡ b) × (is_among x (names_declared d.entries) ≡ true)
  by true t e rest = (c, (zero, refl), same_Some (block_of c) b e, t)
  by false t e rest = let found = rest e in (found.0, has_more c cs found.0 found.1, found.2, found.3)

each-among : (c : CommonBlock) (bs : List BlockName) (cs : List CommonBlock) → Has cs c → is_block_among (block_of c) (with_blocks bs cs) ≡ true
each-among c bs [] h = absurd (none-some c h.1)
each-among c bs (d ∷ ds) (zero, e) = block-stays (block_of c) (if is_block_among (block_of d) bs then bs else bs ++ block_of d ∷ []) ds (subst (λ (k : CommonBlock). is_block_among (block_of k) (if is_block_among (block_of d) bs then bs else bs ++ block_of d ∷ []) ≡ true) (same_Some d c e) (by (is_block_among (block_of d) bs) refl)) where
  by : (t : Bool) → is_block_among (block_of d) bs ≡ t → is_block_among (block_of d) (if t then bs else bs ++ block_of d ∷ []) ≡ true
  by true t = t
  by false t = last-among (block_of d) bs
each-among c bs (d ∷ ds) (suc i, e) = each-among c (if is_block_among (block_of d) bs then bs else bs ++ block_of d ∷ []) ds (i, e)

pub block-of-program : (program : Units) (u : ℕ) (unit : List Statement) (x : Name) (b : BlockName) → slice_get program u ≡ Some unit → common_block unit x ≡ Some b → is_block_among b (blocks_of program) ≡ true
block-of-program program u unit x b there e =
    let held = held-by x b (blocks_of_unit unit) e in
    subst (λ k. is_block_among k (blocks_of program) ≡ true) held.2 (each-among held.0 [] (flat_map blocks_of_unit program) (has_flat blocks_of_unit program unit held.0 (u, there) held.1))
