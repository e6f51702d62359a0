use Rattle.std.proofs.Common.{length, sym}
use Rattle.hep_parse.proofs.CharacterLoops.{characters_go_on, characters_end}
use Rattle.hep_parse.proofs.constant.characters.Goals as goal

pub returns-in_default : goal.returns-in_default
returns-in_default c =
    characters_end (length c.args.s.now) c.loop-turn._turn c.loop-turn.read.items c.loop-turn.rest.now _ c.in-Some-after.rest_after.now c.loop-turn-test.true (sym c.in_default.ensures) (sym c.in-Some-after.ensures) c.loop-turn.invariant

pub loop-turn-preserved : goal.loop-turn-preserved
loop-turn-preserved c =
    rw c.in_ok-push.ensures.items (characters_go_on (length c.args.s.now) c.loop-turn._turn c.loop-turn.read.items c.loop-turn.rest.now _ c.in-Some.c c.in-Some.rest_after.now c.loop-turn-test.true (sym c.in-Some.ensures) c.loop-turn.invariant)
