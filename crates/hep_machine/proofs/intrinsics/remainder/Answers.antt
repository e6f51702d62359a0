use Rattle.std.proofs.Common.{◌≢◌, ◌∙◌, Ok, pos, ap, sym, arith}
use Rattle.std.proofs.lemmas.Int.{ints, rem_is}
use mir.Syntax.{w64}
use Rattle.hep_machine.proofs.Remainders.{remainder-is}
use Rattle.hep_machine.proofs.intrinsics.remainder.Goals as goal

pub returns-in_default : goal.returns-in_default
returns-in_default c =
    let h = c.in_default in
    let n : c.args.right ≢ pos 0 = λ e. omega (arith, ints) in
    ap Ok (rem_is w64 c.args.left c.args.right c.ranges.left c.ranges.right) ∙ sym (remainder-is c.args.left c.args.right c.ranges.right n)
