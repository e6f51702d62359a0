use Rattle.std.proofs.Common.{arith}
use Rattle.hep_expression.specs.Characters.{number_of_digits}
use Rattle.hep_expression.proofs.Decimals.{is_large}
use Rattle.hep_expression.proofs.characters.number.Goals as goal

pub returns-in_err-checked_mul : goal.returns-in_err-checked_mul
returns-in_err-checked_mul c =
    rw c.from_residual.ensures (
    let large = is_large c.loop-c.value c.loop-c.c-index (number_of_digits c.args.digits.now) c.args.digits.now c.loop-c-test.true c.loop-c.invariant in
    let over = c.in_err-checked_mul.ensures in
    omega arith)

pub returns-in_err-value : goal.returns-in_err-value
returns-in_err-value c =
    rw c.from_residual-in_err-value.ensures (
    let large = is_large c.loop-c.value c.loop-c.c-index (number_of_digits c.args.digits.now) c.args.digits.now c.loop-c-test.true c.loop-c.invariant in
    let over = c.in_err-value.ensures in
    let tens = c.in_ok-checked_mul.ensures in
    let digit = c.saturating_sub-digit.ensures in
    omega arith)
