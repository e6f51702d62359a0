use Rattle.std.proofs.Common.{◌∙◌}
use Rattle.hep_source.proofs.NameTests.{inserted}
use Rattle.hep_warnings.proofs.unused_names.add_distinct.Goals as goal

pub returns : goal.returns
returns c = c.in_ok-insert.ensures.keys ∙ inserted c.args.distinct.now.keys c.args.name
