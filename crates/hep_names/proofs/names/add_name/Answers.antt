use Rattle.std.proofs.Common.{◌∙◌}
use Rattle.hep_source.proofs.NameTests.{inserted}
use Rattle.hep_names.proofs.names.add_name.Goals as goal

pub returns : goal.returns
returns c = c.in_ok-insert.ensures.keys ∙ inserted c.args.names.now.keys c.args.name
