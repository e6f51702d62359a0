use Rattle.hep_layout.proofs.Descriptors.{described-loop, described-same, described-set, described-written, memory-described}
use Rattle.hep_layout.proofs.laws.descriptors_are_written.Goals as goal

pub returns : goal.returns
returns c = record { unit = described-written; memory = memory-described; descriptor = described-set; iteration = described-loop; same = described-same }
