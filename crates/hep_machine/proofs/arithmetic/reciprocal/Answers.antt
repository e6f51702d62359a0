use Rattle.std.proofs.Common.{sym, arith}
use Rattle.std.proofs.lemmas.Int.{ints}
use Rattle.hep_machine.proofs.Powers.{even_reciprocal, odd_reciprocal}
use Rattle.hep_machine.proofs.arithmetic.reciprocal.Goals as goal

pub returns-then-exponent-eq0 : goal.returns-then-exponent-eq0
returns-then-exponent-eq0 c = sym (even_reciprocal c.args.base c.args.exponent (omega (arith, ints)) c.if-exponent-eq0.true)

pub returns-else-exponent-eq0 : goal.returns-else-exponent-eq0
returns-else-exponent-eq0 c = sym (odd_reciprocal c.args.base c.args.exponent (omega (arith, ints)) c.if-exponent-eq0.false)
