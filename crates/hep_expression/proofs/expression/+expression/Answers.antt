use Rattle.std.proofs.Common.{length, sym}
use Rattle.hep_expression.specs.ReadingExpression.{operators, next_operand, expression, power}
use Rattle.hep_expression.proofs.Chains.{chain_goes_on, arguments_go_on, arguments_end}
use Rattle.hep_expression.proofs.expression.+expression.Goals as goal

pub chain-loop-turn-preserved : goal.chain-loop-turn-preserved
chain-loop-turn-preserved t c =
    rw c.in_ok-left.ensures (chain_goes_on (operators c.args.level) (next_operand c.args.level (power c.args.context c.args.depth)) c.args.turns c.loop-turn._turn c.loop-turn.left c.loop-turn.rest.now _ c.in-Some.operator c.in_ok-right.right c.in-Some.after.now c.in_ok-right.after.now c.loop-turn-test.true (rw c.operators.ensures at (sym c.in-Some.ensures)) c.in_ok-right.ensures c.loop-turn.invariant)

pub arguments-loop-turn-preserved : goal.arguments-loop-turn-preserved
arguments-loop-turn-preserved t c =
    rw c.in_ok-push.ensures.items (arguments_go_on (expression c.args.context c.args.depth) (length c.args.s.now) c.loop-turn._turn c.loop-turn.list.items c.loop-turn.rest.now _ c.in_ok-argument.argument c.in_ok-argument.rest_after.now c.in-Some-after.rest_after.now c.loop-turn-test.true c.in_ok-argument.ensures (sym c.in_default.ensures) (sym c.in-Some-after.ensures) c.loop-turn.invariant)

pub arguments-returns-in-Some : goal.arguments-returns-in-Some
arguments-returns-in-Some t c =
    rw c.in_ok-push.ensures.items (arguments_end (expression c.args.context c.args.depth) (length c.args.s.now) c.loop-turn._turn c.loop-turn.list.items c.loop-turn.rest.now _ c.in_ok-argument.argument c.in_ok-argument.rest_after.now c.in-Some.rest_after.now c.loop-turn-test.true c.in_ok-argument.ensures (sym c.in-Some.ensures) c.loop-turn.invariant)
