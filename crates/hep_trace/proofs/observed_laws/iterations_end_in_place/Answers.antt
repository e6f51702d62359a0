use Rattle.hep_trace.proofs.LoopEnds.{loop-stays, value-stays}
use Rattle.hep_trace.proofs.observed_laws.iterations_end_in_place.Goals as goal

pub returns : goal.returns
returns c program t after d lives made sound next =
    let h = loop-stays program t lives after sound d next made in
    (h.level, h.lives, h.halted, value-stays program t lives after sound h)
