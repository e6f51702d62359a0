use Rattle.std.proofs.Common.{ap, ◌∙◌}
use Rattle.std.specs.Option.{unwrap_or}
use Rattle.hep_storage.proofs.Indexes.{block-index}
use Rattle.hep_storage.proofs.common.CommonBlocks.index.Goals as goal

pub returns : goal.returns
returns c = c.unwrap_or.ensures ∙ ap (λ o. unwrap_or o 0) (c.get_index_of.ensures.index ∙ block-index c.args.block c.args.self.now.blocks.keys)
