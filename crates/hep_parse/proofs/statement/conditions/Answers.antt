use Rattle.std.proofs.Common.{length}
use Rattle.hep_parse.proofs.ConditionLoops.{goes_on}
use Rattle.hep_parse.proofs.statement.conditions.Goals as goal

pub loop-turn-preserved : goal.loop-turn-preserved
loop-turn-preserved c = rw c.in_ok-push-in-Ok.ensures.items (goes_on c.args.context (length c.args.s.now) c.loop-turn._turn c.loop-turn.conditions.items c.loop-turn.rest.now _ c.in-Ok.condition c.in-Ok.held.now c.loop-turn-test.true c.in-Ok.ensures c.loop-turn.invariant)
