use Rattle.hep_parse.proofs.Programs.{at_most_one}
use Rattle.hep_parse.proofs.program.at_most_one_program.Goals as goal

pub returns : goal.returns
returns c = at_most_one
