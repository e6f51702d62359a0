-- The blocks of a unit are among those of its program; and the loops over units and over the blocks of a unit.
use Rattle.std.proofs.Common.{◌≡◌, ◌<◌, ◌≤◌, ◌+◌, ℕ, Bool, true, false, Option, None, is_some, List, [], ◌∷◌, drop, length, get_or, refl, ap, sym, subst, ◌∙◌, if◌then◌else◌, arith, ◌++◌}
use Rattle.std.proofs.lemmas.List.{drop_all}
use Rattle.std.specs.List.{list_any, flat_map}
use Rattle.std.proofs.lemmas.List.Folds.{list_any-append, list_any_at}
use Rattle.hep_machine.specs.Words.{Statement, Units, BlockName, same_block, is_block_among, blocks_of, block_of, blocks_in, blocks_of_unit, with_blocks, CommonBlock}
use Rattle.hep_conditions.specs.Words.{least_line, least_line_of}
use Rattle.hep_conditions.proofs.Lines.{least_line-assoc, least_line-comm, least_line-again}
use Rattle.hep_storage.specs.Agreement.{Summed, with_block, line_after, AreAmong}
use Rattle.hep_storage.specs.BlockContents.{Block, block_in, known_places}
use Rattle.hep_machine.proofs.Locations.{equal_blocks, block-self, block-stays}
use Rattle.hep_source.proofs.Tests.{any-flat, some-mapped}
use Rattle.hep_conditions.specs.Common as conditions

-- ---- the blocks of a unit are among those of its program

abbrev named : BlockName → List CommonBlock → Bool
named b cs = list_any (λ (c : CommonBlock). same_block (block_of c) b) cs

some-line : (b : BlockName) (unit : List Statement) → is_some (conditions.last_line b unit) ≡ true → named b (blocks_of_unit unit) ≡ true
some-line b [] h = absurd cc
some-line b (s ∷ ss) h =
    let parts = list_any-append (λ (c : CommonBlock). same_block (block_of c) b) (blocks_in s.form) (blocks_of_unit ss) in
    grind (arith, parts, some-line b ss)

-- ---- the blocks of a list, each once

this-among : (b : BlockName) (bs : List BlockName) → is_block_among b (if is_block_among b bs then bs else bs ++ b ∷ []) ≡ true
this-among b bs = grind (arith, list_any-append (same_block b) bs (b ∷ []), block-self b)

named-among : (b : BlockName) (bs : List BlockName) (cs : List CommonBlock) → named b cs ≡ true → is_block_among b (with_blocks bs cs) ≡ true
named-among b bs [] h = absurd cc
named-among b bs (c ∷ cs) h =
    let more = if is_block_among (block_of c) bs then bs else bs ++ block_of c ∷ [] in
    grind (arith, block-stays b more cs, this-among (block_of c) bs, equal_blocks (block_of c) b, named-among b more cs)

-- ---- a unit of a program

pub unit-among : (program : Units) (i : ℕ) (d : List Statement) → i < length program → (b : BlockName) → is_some (block_in (get_or program i d) b) ≡ true → is_block_among b (blocks_of program) ≡ true
unit-among program i d lt b h =
    let unit = get_or program i d in
    let there = sym (some-mapped (λ (line : ℕ). record { list = known_places (conditions.positions_of_block unit b); line = line }) (conditions.last_line b unit)) ∙ h in
    named-among b [] (flat_map blocks_of_unit program)
    (any-flat (λ (c : CommonBlock). same_block (block_of c) b) blocks_of_unit program
    ∙ list_any_at (λ u. named b (blocks_of_unit u)) program i d lt (some-line b unit there))

-- ---- the least line of blocks

least_line-turned : (a b c : Option ℕ) → least_line a (least_line b c) ≡ least_line b (least_line a c)
least_line-turned a b c = sym (least_line-assoc a b c) ∙ (ap (λ l. least_line l c) (least_line-comm a b) ∙ least_line-assoc b a c)

module _ (line : BlockName → Option ℕ) where
  absorbed : (b : BlockName) (bs : List BlockName) → is_block_among b bs ≡ true → least_line (line b) (least_line_of line bs) ≡ least_line_of line bs
  absorbed b [] h = absurd cc
  absorbed b (c ∷ cs) h =
      let behind = least_line_of line cs in
      grind (arith, equal_blocks b c, least_line-again (line c), least_line-assoc (line c) (line c) behind, least_line-turned (line b) (line c) behind, absorbed b cs)

-- ---- one block less

module _ (k : BlockName) (f g : BlockName → Option ℕ) (other : (b : BlockName) → g b ≡ (if same_block k b then None else f b)) where
  without : (bs : List BlockName) → least_line (f k) (least_line_of g bs) ≡ least_line (f k) (least_line_of f bs)
  without [] = refl
  without (b ∷ bs) =
      let fs = least_line_of f bs in
      let gs = least_line_of g bs in
      let again = ap (λ l. least_line l fs) (least_line-again (f k)) in
      grind (arith, other b, without bs, equal_blocks k b, least_line-assoc (f k) (f k) fs, again, least_line-turned (f k) (f b) gs, least_line-turned (f k) (f b) fs)

  taken : (bs : List BlockName) → is_block_among k bs ≡ true → least_line (f k) (least_line_of g bs) ≡ least_line_of f bs
  taken bs h = without bs ∙ absorbed f k bs h

module _ (k : BlockName) (s t : BlockName → Summed) (left fewer : BlockName → Option Block) (less : (b : BlockName) → fewer b ≡ (if same_block k b then None else left b))
    (more : (b : BlockName) → t b ≡ (if same_block k b then with_block (left k) (s k) else s b)) where
  pub block-joined : (b : BlockName) → with_block (fewer b) (t b) ≡ with_block (left b) (s b)
  block-joined b = rw (less b, more b) (by (same_block k b) refl)
    where
      by : (e : Bool) → same_block k b ≡ e → with_block (if e then None else left b) (if e then with_block (left k) (s k) else s b) ≡ with_block (left b) (s b)
      by true e = ap (λ d. with_block (left d) (s d)) (equal_blocks k b e)
      by false e = refl

  pub block-among : (bs : List BlockName) → AreAmong bs left → AreAmong bs fewer
  block-among bs h b e = grind (arith, less b, h b)

  pub fewer-line : (b : BlockName) → line_after b (t b) (fewer b) ≡ (if same_block k b then None else line_after b (s b) (left b))
  fewer-line b = grind (arith, less b, more b)

-- ---- the loop over the blocks of a unit

-- of a loop over names, those that are left have all blocks that are left
pub among-next : (k : BlockName) (ks : List BlockName) (left fewer : BlockName → Option Block) → ((b : BlockName) → fewer b ≡ (if same_block k b then None else left b)) → AreAmong (k ∷ ks) left → AreAmong ks fewer
among-next k ks left fewer less h b e = grind (arith, less b, h b, equal_blocks b k, block-self k)

none-among : (left : BlockName → Option Block) → AreAmong [] left → (b : BlockName) → left b ≡ None
none-among left h b = grind (arith, h b)

pub all-settled : (ks : List BlockName) (i : ℕ) (left : BlockName → Option Block) → length ks ≤ i → AreAmong (drop i ks) left → (b : BlockName) → left b ≡ None
all-settled ks i left k h = none-among left (subst (λ js. AreAmong js left) (drop_all i ks k) h)
