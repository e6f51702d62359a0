use Rattle.hep_accesses.proofs.SameRows.{same-rows}
use Rattle.hep_accesses.proofs.laws.clocks_tell_races.Goals as goal

pub returns : goal.returns
returns c same alike es laws = same-rows same alike laws es
