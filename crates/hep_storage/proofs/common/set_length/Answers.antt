use Rattle.std.proofs.Common.{Some, ◌∙◌}
use Rattle.hep_names.proofs.BlockNames.{changed}
use Rattle.hep_storage.proofs.common.set_length.Goals as goal

pub returns : goal.returns
returns c = λ b. c.in_ok-insert.ensures.updates.0 b ∙ changed c.args.block b (Some c.args.length) _
