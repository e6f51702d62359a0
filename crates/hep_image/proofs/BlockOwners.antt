-- The common blocks tell whose the cells of COMMON are.
use Rattle.std.proofs.Common.{◌≡◌, ℕ, ◌+◌, true, List, [], ◌∷◌, map, Some, refl, ap, ap₂, sym, ◌∙◌, subst, arith, if◌then◌else◌}
use Rattle.std.specs.List.Sorted.{IsNonDecreasingBy}
use Rattle.hep_machine.specs.Words.{Units, BlockName, blocks_of, same_block, block_cells}
use Rattle.hep_machine.proofs.Locations.{equal_blocks, block-self}
use Rattle.hep_layout.specs.Words.{Row, common_row, first_in, owner_in}
use Rattle.hep_layout.proofs.Rows.{has_key}
use Rattle.hep_image.specs.declared.owners.BlockStart.{BlockStart}
use Rattle.hep_image.specs.Owners.{IsBlockTold, block_start, block_starts, last_before}
use Rattle.hep_image.proofs.Distinct.{AreDistinct, block_in, blocks_distinct, is_in}
use Rattle.hep_image.proofs.Numbers.{block-inside}
use Rattle.hep_image.proofs.RowOwners.{AreApart, AreFrom, from-firsts, from-found, from-rising, made, owner_key}

module _ (program : Units) where
  abbrev first_of : BlockStart → ℕ
  first_of s = s.first

  abbrev row : List BlockName → Row BlockName
  row bs = map (λ (b : BlockName). (b, block_cells program b)) bs

  made_blocks : (bs : List BlockName) → made (block_start program) first_of (row bs) ≡ map (block_start program) bs
  made_blocks [] = refl
  made_blocks (b ∷ bs) = ap (λ ss. block_start program b ∷ ss) (made_blocks bs)

  in_row : (b : BlockName) (bs : List BlockName) → has_key (same_block b) (row bs) ≡ is_in same_block b bs
  in_row b [] = refl
  in_row b (c ∷ cs) = ap (λ t. if same_block b c then true else t) (in_row b cs)

  apart : (bs : List BlockName) → AreDistinct same_block bs → AreApart (block_start program) first_of same_block block-self equal_blocks (row bs)
  apart [] h = tt
  apart (b ∷ bs) h = (in_row b bs ∙ h.0, apart bs h.1)

  blocks_from : AreFrom (block_start program) first_of 0 (common_row program)
  blocks_from =
      from-firsts (block_start program) first_of same_block block-self equal_blocks 0 (common_row program) (apart (blocks_of program) (blocks_distinct program))
      (λ b h. zero_more (first_in (same_block b) (common_row program)))
    where
      zero_more : (n : ℕ) → n ≡ 0 + n
      zero_more n = omega arith

  pub tells_block : (b : BlockName) (i n : ℕ) → owner_in (common_row program) n ≡ Some (b, i)
      → IsBlockTold program n b i
  tells_block b i n e =
      let found = from-found (block_start program) first_of 0 n i b (common_row program) blocks_from e in
      let same : 0 + n ≡ n = omega arith in
      let listed = owner_key same_block block-self (common_row program) n i b e in
      let among = sym (block_in b (blocks_of program)) ∙ (sym (in_row b (blocks_of program)) ∙ listed) in
      record {
        found = block_start program b;
        before = ap₂ (λ ss m. last_before first_of ss m) (sym (made_blocks (blocks_of program))) (sym same) ∙ found.0;
        index = refl;
        named = among;
        inside = block-inside program b among;
        behind = found.1 ∙ same;
      }

  pub blocks_rise : IsNonDecreasingBy first_of (block_starts program)
  blocks_rise = subst (IsNonDecreasingBy first_of) (made_blocks (blocks_of program)) (from-rising (block_start program) first_of 0 (common_row program) blocks_from)
