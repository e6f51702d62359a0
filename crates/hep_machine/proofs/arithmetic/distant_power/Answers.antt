use Rattle.std.proofs.Common.{sym, arith}
use Rattle.std.proofs.lemmas.Int.{ints, to_z-of_z}
use mir.Val.{SFits}
use mir.Syntax.{w64}
use Rattle.hep_machine.proofs.Powers.{even_sign, odd_sign, small_power, far_positive, far_negative}
use Rattle.hep_machine.proofs.arithmetic.distant_power.Goals as goal

pub returns-then-exponent-eq0 : goal.returns-then-exponent-eq0
returns-then-exponent-eq0 c = sym (even_sign c.args.base c.args.exponent (omega (arith, ints)) c.if-exponent-eq0.true)

pub returns-else-exponent-eq0 : goal.returns-else-exponent-eq0
returns-else-exponent-eq0 c = sym (odd_sign c.args.base c.args.exponent (omega (arith, ints)) c.if-exponent-eq0.false)

pub returns-in-0 : goal.returns-in-0
returns-in-0 c =
    let fits : SFits w64 c.args.base = c.ranges.base in
    rw to_z-of_z (sym (small_power c.args.base c.args.exponent (omega (arith, ints)) (omega (arith, ints)) c.requires))

pub returns-in_default : goal.returns-in_default
returns-in_default c = sym (far_negative c.args.base c.args.exponent (omega (arith, ints)) c.requires)

pub returns-in_default-2 : goal.returns-in_default-2
returns-in_default-2 c = sym (far_positive c.args.base c.args.exponent (omega (arith, ints)) c.requires)
