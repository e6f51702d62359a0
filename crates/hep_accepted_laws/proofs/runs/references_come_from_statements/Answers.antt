use Rattle.hep_accepted_laws.proofs.References.{comes-reference}
use Rattle.hep_accepted_laws.proofs.runs.references_come_from_statements.Goals as goal

pub returns : goal.returns
returns c = λ unit k work x actuals h e. comes-reference unit x actuals k work h e
