use Rattle.std.proofs.Common.{◌≡◌, length}
use Rattle.hep_private.specs.Stores.{stored_in}
use Rattle.hep_private.proofs.write_log.stored.Given as goal

abbrev pub invariant-loop-last : goal.invariant-loop-last
invariant-loop-last l = stored_in l.records l.cell ≡ stored_in l.rest l.cell

abbrev pub decreases-loop-last : goal.decreases-loop-last
decreases-loop-last l = length l.rest
