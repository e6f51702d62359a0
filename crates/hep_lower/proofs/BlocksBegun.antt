-- The starts that are kept for common blocks are their first cells.
use Rattle.std.proofs.Common.{◌≡◌, ◌≤◌, true, ◌||◌, List, [], ◌∷◌, map, refl, ap, ◌∙◌}
use Rattle.std.specs.Option.{unwrap_or}
use Rattle.hep_machine.specs.Words.{index_where, Units, BlockName, blocks_of, is_block_among, same_block, common_cells}
use Rattle.hep_image.specs.declared.owners.BlockStart.{BlockStart}
use Rattle.hep_image.specs.Image.{most_cells}
use Rattle.hep_image.specs.Owners.{block_start, block_starts}
use Rattle.hep_storage.specs.Starts.{AreStarts, start_in}
use Rattle.hep_storage.specs.declared.common.CommonBlocks.{CommonBlocks}
use Rattle.hep_storage.specs.declared.starts.CommonStarts.{CommonStarts}
use Rattle.hep_storage.proofs.Beginnings.{first-start}
use Rattle.hep_lower.specs.BlockStarts.{block_begun}
use Rattle.hep_source.proofs.Tests.{or-true}
use Rattle.hep_machine.proofs.Locations.{block-self}

module _ (program : Units) (blocks : CommonBlocks) (common : CommonStarts) (listed : blocks.blocks.keys ≡ blocks_of program) where
  all-begun : (bs : List BlockName) → ((b : BlockName) → is_block_among b bs ≡ true → start_in common b ≡ (block_start program b).first) → map (block_begun blocks common) bs ≡ map (block_start program) bs
  all-begun [] at = refl
  all-begun (b ∷ bs) at =
      let here = at b (ap (λ t. t || is_block_among b bs) (block-self b)) in
      let rest = all-begun bs (λ c h. at c (ap (λ t. same_block c b || t) h ∙ or-true (same_block c b))) in
      λ i. record { index = unwrap_or (index_where (same_block b) (listed i)) 0; first = here i } ∷ rest i

  pub begun-are : (starts : List BlockStart) → AreStarts program common → common_cells program ≤ most_cells → starts ≡ map (block_begun blocks common) blocks.blocks.keys → starts ≡ block_starts program
  begun-are starts kept small made =
      made ∙ (ap (map (block_begun blocks common)) listed ∙ all-begun (blocks_of program) (λ b h. first-start program common b small kept h))
