use Rattle.std.proofs.Common.{ap, ◌∙◌}
use Rattle.std.specs.Option.{unwrap_or}
use Rattle.hep_machine.specs.Words.{index_among}
use Rattle.hep_storage.proofs.Indexes.{name-index}
use Rattle.hep_places.proofs.frame_owners.index_of.Goals as goal

pub returns : goal.returns
returns c =
    let x = c.args.name.now in
    c.unwrap_or.ensures
    ∙ ap (λ o. unwrap_or o 0) (c.get_index_of.ensures.index ∙ (name-index x c.names.result.now.keys ∙ ap (index_among x) c.names.ensures))
