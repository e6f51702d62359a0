-- The first cell of a common block, by the starts that are kept.
use Rattle.std.specs.Option.{unwrap_or}
use Rattle.hep_machine.specs.Words.{index_where, BlockName, same_block}
use Rattle.hep_image.specs.declared.owners.BlockStart.{BlockStart}
use Rattle.hep_storage.specs.Starts.{start_in}
use Rattle.hep_storage.specs.declared.common.CommonBlocks.{CommonBlocks}
use Rattle.hep_storage.specs.declared.starts.CommonStarts.{CommonStarts}

abbrev pub block_begun : CommonBlocks → CommonStarts → BlockName → BlockStart
block_begun blocks starts b =
    record { index = unwrap_or (index_where (same_block b) blocks.blocks.keys) 0; first = start_in starts b }
