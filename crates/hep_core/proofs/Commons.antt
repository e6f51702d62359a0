-- The cells of COMMON by their positions.
use Rattle.std.proofs.Common.{◌≡◌, ℕ, zero, suc, ◌+◌, ◌-◌, true, List, [], ◌∷◌, ◌++◌, Option, Some, None, refl, ◌∙◌, subst, arith, if◌then◌else◌, map, nat_lt, option_map, slice_get}
use Rattle.std.specs.List.{flat_map}
use Rattle.std.proofs.lemmas.Bool.Decides.{nat_tests}
use Rattle.hep_machine.specs.Words.{Units, BlockName, same_block, is_block_among, block_cells, blocks_of, cells_of_blocks, common, common_cells, CellView, Location, further}
use Rattle.hep_machine.specs.declared.slot.Slot.{Slot}
use Rattle.hep_machine.proofs.Locations.{block-self}
use Rattle.hep_image.specs.Addressing.{cells_in}
use Rattle.hep_layout.specs.Words.{Row, first_in, first_of_block}
use Rattle.hep_layout.proofs.Singles.{AreOnce, program-single, single-apart, single-rest}
use Rattle.hep_views.specs.StoredContents.{block_read, cells_read, common_read}

abbrev pub cell_of : Option CellView → Option Slot
cell_of seen = option_map (λ (v : CellView). v.cell) seen

module _ (program : Units) (contents : List Slot) where
  -- of consecutive cells, and of others behind them
  run-at : (at : Location) (p n : ℕ) (rest : List CellView) (i : ℕ)
      → cell_of (slice_get (cells_read contents at p n ++ rest) i) ≡ (if nat_lt i n then Some (cells_in contents (p + i)) else cell_of (slice_get rest (i - n)))
  run-at at p zero rest i = grind (arith, nat_tests)
  run-at at p (suc n) rest zero = grind (arith, nat_tests)
  run-at at p (suc n) rest (suc i) = grind (arith, nat_tests, run-at (further at 1) (suc p) n rest i)

  joined : (n m k first i : ℕ) (o : Option Slot) → first ≡ k → o ≡ (if nat_lt (i - n) m then Some (cells_in contents (k + n + (i - n))) else None)
      → (if nat_lt i n then Some (cells_in contents (first + i)) else o) ≡ (if nat_lt i (n + m) then Some (cells_in contents (k + i)) else None)
  joined n m k first i o e h = grind (arith, nat_tests, e, h)

  abbrev row : List BlockName → Row BlockName
  row bs = map (λ (b : BlockName). (b, block_cells program b)) bs

  -- of blocks, each of which is there once, behind so many cells
  blocks-at : (bs : List BlockName) (k i : ℕ) → AreOnce bs → ((b : BlockName) → is_block_among b bs ≡ true → first_of_block program b ≡ k + first_in (same_block b) (row bs))
      → cell_of (slice_get (flat_map (block_read program contents) bs) i) ≡ (if nat_lt i (cells_of_blocks program bs) then Some (cells_in contents (k + i)) else None)
  blocks-at [] k i once starts = grind (arith, nat_tests)
  blocks-at (b ∷ bs) k i once starts =
      let n = block_cells program b in
      let among : is_block_among b (b ∷ bs) ≡ true = rw (block-self b) refl in
      let first : first_of_block program b ≡ k = grind (arith, block-self b, starts b among) in
      let later = blocks-at bs (k + n) (i - n) (single-rest b bs once) (λ c is_among. behind c is_among) in
      run-at (common b 1) (first_of_block program b) n (flat_map (block_read program contents) bs) i
      ∙ joined n (cells_of_blocks program bs) k (first_of_block program b) i _ first later
    where
      behind : (c : BlockName) → is_block_among c bs ≡ true → first_of_block program c ≡ k + block_cells program b + first_in (same_block c) (row bs)
      behind c is_among =
          let apart = single-apart c b bs once is_among in
          let also : is_block_among c (b ∷ bs) ≡ true = rw apart is_among in
          let next : first_in (same_block c) (row (b ∷ bs)) ≡ block_cells program b + first_in (same_block c) (row bs) = rw apart refl in
          omega (arith, starts c also, next)

  pub common-at : (i : ℕ) → cell_of (slice_get (common_read program contents) i) ≡ (if nat_lt i (common_cells program) then Some (cells_in contents i) else None)
  common-at i =
      let same : 0 + i ≡ i = omega arith in
      let seen = blocks-at (blocks_of program) 0 i (program-single program) (λ b among. starts b) in
      subst (λ n. cell_of (slice_get (common_read program contents) i) ≡ (if nat_lt i (common_cells program) then Some (cells_in contents n) else None)) same seen
    where
      starts : (b : BlockName) → first_of_block program b ≡ 0 + first_in (same_block b) (row (blocks_of program))
      starts b = omega arith
