use Rattle.std.proofs.Common.{drop}
use Rattle.hep_machine.specs.Words.{Units}
use Rattle.hep_storage.specs.Starts.{AreBlocks}
use Rattle.hep_storage.proofs.Beginnings.{AreBegun}
use Rattle.hep_storage.proofs.starts.CommonStarts.of_blocks.Given as goal

abbrev pub invariant-loop-block : goal.invariant-loop-block
invariant-loop-block l = (program : Units) → AreBlocks program l.common → AreBegun program l.starts (drop l.block-index l.block-items)
