use Rattle.std.proofs.Common.{◌∙◌}
use Rattle.hep_storage.proofs.LengthTables.{block-inserted}
use Rattle.hep_storage.proofs.common.add_block.Goals as goal

pub returns : goal.returns
returns c = c.in_ok-insert.ensures.keys ∙ block-inserted c.args.blocks.now.keys c.args.block
