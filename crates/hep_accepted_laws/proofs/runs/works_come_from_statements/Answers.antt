use Rattle.hep_accepted_laws.proofs.Levels.{top-comes, works-come}
use Rattle.hep_accepted_laws.proofs.runs.works_come_from_statements.Goals as goal

pub returns : goal.returns
returns c = record { level = works-come; top = top-comes }
