use Rattle.hep_parse.proofs.Outcomes.{accepted, complete, refused, first_reported}
use Rattle.hep_parse.proofs.program.parse.Goals as goal

pub returns : goal.returns
returns c = record {
  accepted = accepted c.args.statements.now c.program.result c.program.ensures;
  complete = complete c.args.statements.now c.program.result c.program.ensures;
  refused = refused c.args.statements.now c.program.result c.program.ensures;
  reported = first_reported c.args.statements.now c.program.result c.program.ensures;
}
