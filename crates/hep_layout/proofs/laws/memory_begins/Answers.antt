use Rattle.hep_layout.proofs.Beginning.{memory-begins}
use Rattle.hep_layout.proofs.laws.memory_begins.Goals as goal

pub returns : goal.returns
returns c = memory-begins
