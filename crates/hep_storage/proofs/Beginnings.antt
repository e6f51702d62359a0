-- Where common blocks begin, one block after the other.
use Rattle.std.proofs.Common.{◌≡◌, ℕ, ◌+◌, ◌≤◌, Bool, true, false, ◌||◌, Option, Some, List, [], ◌∷◌, map, length, drop, nat_le, unwrap_or, refl, ap, sym, ◌∙◌, subst, arith, true≢false, cond, if◌then◌else◌}
use Rattle.std.proofs.lemmas.Bool.Decides.{nat_tests}
use Rattle.std.proofs.lemmas.List.{drop_all}
use Rattle.std.specs.Option.{option_eq}
use Rattle.hep_machine.specs.Words.{name_eq, Units, BlockName, same_block, blocks_of, is_block_among, block_cells, cells_of_blocks, common_cells}
use Rattle.hep_layout.specs.Words.{Row, cells_in, common_row, first_in, first_of_block}
use Rattle.hep_layout.proofs.CommonRows.{common_row-cells}
use Rattle.hep_names.proofs.BlockNames.{changed}
use Rattle.hep_storage.specs.Starts.{AreStarts, narrowed, start_in}
use Rattle.hep_storage.specs.declared.starts.CommonStarts.{CommonStarts}
use Rattle.hep_layout.proofs.Singles.{AreOnce, program-single, single-apart, single-rest}
use Rattle.hep_layout.proofs.Runs.{block-turned}

-- what a table has of a block after it was given a start
pub start-added : (k b : BlockName) (n v : ℕ) (old new : Option ℕ) → new ≡ cond (option_eq name_eq k b) (Some v) old → v ≡ n → unwrap_or new 0 ≡ (if same_block k b then n else unwrap_or old 0)
start-added k b n v old new h e = ap (λ o. unwrap_or o 0) (h ∙ changed k b (Some v) old) ∙ by (same_block k b)
  where
    by : (t : Bool) → unwrap_or (if t then Some v else old) 0 ≡ (if t then n else unwrap_or old 0)
    by true = e
    by false = refl

-- the cells in front of a block among these
abbrev pub cells_ahead : Units → BlockName → List BlockName → ℕ
cells_ahead program b bs = first_in (same_block b) (map (λ (k : BlockName). (k, block_cells program k)) bs)

-- the starts, where these blocks are still to come
pub record AreBegun (program : Units) (c : CommonStarts) (bs : List BlockName) : Type 0 where
  pub single : AreOnce bs
  pub cells : c.cells + cells_of_blocks program bs ≡ common_cells program
  pub ahead : (b : BlockName) → is_block_among b bs ≡ true → c.cells + cells_ahead program b bs ≡ first_of_block program b
  pub behind : (b : BlockName) → is_block_among b (blocks_of program) ≡ true → is_block_among b bs ≡ false → start_in c b ≡ narrowed (first_of_block program b)

pub from-zero : (a n : ℕ) → a ≡ 0 → a + n ≡ n
from-zero a n h = omega (arith, h)

pub begun-first : (program : Units) (c : CommonStarts) (bs : List BlockName) → bs ≡ blocks_of program → c.cells ≡ 0 → AreBegun program c bs
begun-first program c bs same h = subst (AreBegun program c) (sym same) (record {
  single = program-single program;
  cells = from-zero c.cells (common_cells program) h;
  ahead = λ b e. from-zero c.cells (first_of_block program b) h;
  behind = λ b e f. absurd (true≢false (sym e ∙ f));
})

other-turned : (k b : BlockName) (t : Bool) → same_block k b ≡ t → same_block b k ≡ t
other-turned k b true h = block-turned k b h
other-turned k b false h = by (same_block b k) refl
  where
    by : (t : Bool) → same_block b k ≡ t → t ≡ false
    by true e = sym (block-turned b k e) ∙ h
    by false e = refl

pub one-more : (n m r c all : ℕ) → c ≡ n + m → n + (m + r) ≡ all → c + r ≡ all
one-more n m r c all e h = omega (arith, e, h)

nothing-ahead : (n all : ℕ) → n + 0 ≡ all → n ≡ all
nothing-ahead n all h = omega (arith, h)

-- one block more
pub begun-next : (program : Units) (c d : CommonStarts) (k : BlockName) (n : ℕ) (ks bs : List BlockName) → AreBegun program c ks → ks ≡ k ∷ bs → n ≡ block_cells program k → d.cells ≡ c.cells + n
    → ((b : BlockName) → start_in d b ≡ (if same_block k b then narrowed c.cells else start_in c b)) → AreBegun program d bs
begun-next program c d k n ks bs begun is e f g = record {
  single = single-rest k bs h.single;
  cells = one-more c.cells (block_cells program k) (cells_of_blocks program bs) d.cells (common_cells program) sum h.cells;
  ahead = ahead;
  behind = behind;
}
  where
    h : AreBegun program c (k ∷ bs)
    h = subst (AreBegun program c) is begun

    sum : d.cells ≡ c.cells + block_cells program k
    sum = f ∙ ap (λ m. c.cells + m) e

    ahead : (b : BlockName) → is_block_among b bs ≡ true → d.cells + cells_ahead program b bs ≡ first_of_block program b
    ahead b among =
        let apart : same_block b k ≡ false = single-apart b k bs h.single among in
        let here : is_block_among b (k ∷ bs) ≡ true = ap (λ t. t || is_block_among b bs) apart ∙ among in
        one-more c.cells (block_cells program k) (cells_ahead program b bs) d.cells (first_of_block program b) sum
        (sym (ap (λ t. c.cells + (if t then 0 else block_cells program k + cells_ahead program b bs)) apart) ∙ h.ahead b here)

    behind : (b : BlockName) → is_block_among b (blocks_of program) ≡ true → is_block_among b bs ≡ false → start_in d b ≡ narrowed (first_of_block program b)
    behind b among gone = g b ∙ by (same_block k b) refl
      where
        by : (t : Bool) → same_block k b ≡ t → (if t then narrowed c.cells else start_in c b) ≡ narrowed (first_of_block program b)
        by true s =
            let turned : same_block b k ≡ true = other-turned k b true s in
            let here : is_block_among b (k ∷ bs) ≡ true = ap (λ t. t || is_block_among b bs) turned in
            ap narrowed (nothing-ahead c.cells (first_of_block program b)
            (sym (ap (λ t. c.cells + (if t then 0 else block_cells program k + cells_ahead program b bs)) turned) ∙ h.ahead b here))
        by false s = h.behind b among (ap (λ t. t || is_block_among b bs) (other-turned k b false s) ∙ gone)

-- none is still to come
pub begun-all : (program : Units) (c : CommonStarts) (i : ℕ) (bs : List BlockName) → length bs ≤ i → AreBegun program c (drop i bs) → AreStarts program c
begun-all program c i bs k begun = record {
  cells_are = nothing-ahead c.cells (common_cells program) h.cells;
  starts_are = λ b e. h.behind b e refl;
}
  where
    h : AreBegun program c []
    h = subst (AreBegun program c) (drop_all i bs k) begun

-- ---- starts of 32 bits

first-within : {K : Type 0} (test : K → Bool) (es : Row K) → first_in test es ≤ cells_in es
first-within test [] = omega arith
first-within test (e ∷ es) = by (test e.0) (first-within test es)
  where
    by : (t : Bool) → first_in test es ≤ cells_in es → (if t then 0 else e.1 + first_in test es) ≤ e.1 + cells_in es
    by true h = omega arith
    by false h = omega (arith, h)

narrowed-few : (n : ℕ) → n ≤ 16777216 → narrowed n ≡ n
narrowed-few n h = let few : nat_le n 4294967295 ≡ true = grind (arith, nat_tests) in ap (λ t. if t then n else 4294967295) few

pub first-start : (program : Units) (c : CommonStarts) (b : BlockName) → common_cells program ≤ 16777216 → AreStarts program c → is_block_among b (blocks_of program) ≡ true → start_in c b ≡ first_of_block program b
first-start program c b h starts among =
    let within : first_of_block program b ≤ cells_in (common_row program) = first-within (same_block b) (common_row program) in
    starts.starts_are b among ∙ narrowed-few (first_of_block program b) (omega (arith, h, within, common_row-cells program))
