use Rattle.std.proofs.Common.{length}
use Rattle.hep_parse.proofs.ListLoops.{nothing_read, goes_on, ends, is_over}
use Rattle.hep_parse.proofs.list.listed.Goals as goal

pub returns-in-Err-NoReading : goal.returns-in-Err-NoReading
returns-in-Err-NoReading g c = ends (g.P.Readable.part_at c.args.context) (length c.args.s.now) c.loop-turn._turn c.loop-turn.parts.items c.loop-turn.rest.now _ c.loop-turn-test.true (nothing_read c.in-Err-NoReading.field-0 _ c.in-Err-NoReading.field-0-is c.in-Err-NoReading.ensures) c.loop-turn.invariant

pub loop-turn-preserved : goal.loop-turn-preserved
loop-turn-preserved g c = rw c.in_ok-push-in-Ok.ensures.items (goes_on (g.P.Readable.part_at c.args.context) (length c.args.s.now) c.loop-turn._turn c.loop-turn.parts.items c.loop-turn.rest.now _ c.in-Ok.part c.in-Ok.rest_after.now c.loop-turn-test.true c.in-Ok.ensures c.loop-turn.invariant)

pub returns : goal.returns
returns g c = is_over (g.P.Readable.part_at c.args.context) (length c.args.s.now) c.loop-turn._turn c.loop-turn.parts.items c.loop-turn.rest.now _ c.loop-turn-test.false c.loop-turn.invariant
