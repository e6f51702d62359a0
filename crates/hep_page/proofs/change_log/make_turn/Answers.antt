use Rattle.std.proofs.Common.{arith}
use Rattle.hep_page.proofs.NextTurns.{never-cut, turn-made}
use Rattle.hep_page.proofs.change_log.make_turn.Goals as goal

pub make_run-requires-clause-within : goal.make_run-requires-clause-within
make_run-requires-clause-within c = omega (arith, c.requires.next.few)

pub unreachable-requires : goal.unreachable-requires
unreachable-requires c =
    never-cut c.args.core.now.core c.make_run.new.core.core c.args.turn c.requires.next c.in-Ok.made c.if-made-eq0.true c.in-Ok.ensures.made

pub returns : goal.returns
returns c =
    turn-made c.args.core.now.core c.make_run.new.core.core c.args.turn c.requires.next c.in-Ok.made c.if-made-eq0.false c.in-Ok.ensures.made
