use Rattle.hep_private.proofs.Blank.{blank}
use Rattle.hep_private.proofs.segment.Segment.new.Goals as goal

pub invariant_of-result : goal.invariant_of-result
invariant_of-result c = blank (record { number = 0; process = 0 }) c.new.result c.new-3.result c.new-2.result c.new.ensures c.new-2.ensures c.new-3.ensures
