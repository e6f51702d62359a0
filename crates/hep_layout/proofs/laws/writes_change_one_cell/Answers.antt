use Rattle.hep_layout.proofs.Memory.{memory-same, memory-written, written-elsewhere}
use Rattle.hep_layout.proofs.laws.writes_change_one_cell.Goals as goal

pub returns : goal.returns
returns c = record { same = memory-same; written = memory-written; elsewhere = written-elsewhere }
