use Rattle.std.proofs.Common.{◌≡◌, drop}
use Rattle.hep_private.specs.BaseValues.{value_copied}
use Rattle.hep_private.proofs.write_log.copied.Given as goal

abbrev pub invariant-loop-copy : goal.invariant-loop-copy
invariant-loop-copy l = value_copied l.copies l.cell ≡ value_copied (drop l.copy-index l.copies) l.cell
