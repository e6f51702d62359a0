use Rattle.std.proofs.Common.{◌≡◌, drop}
use Rattle.hep_conditions.specs.Words.{with_all, indexed_from, block_ifs_of}
use Rattle.hep_control.proofs.blocks.block_ifs_of.Given as goal

abbrev pub invariant-loop-index : goal.invariant-loop-index
invariant-loop-index l = with_all l.blocks (indexed_from l.index (drop l.index l.unit)) ≡ block_ifs_of l.unit
