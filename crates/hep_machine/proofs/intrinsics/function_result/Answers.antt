use Rattle.std.proofs.Common.{sym, ap, ◌∙◌, arith}
use Rattle.hep_machine.specs.Words.{PureFunction, function_result, integers_of}
use Rattle.hep_machine.proofs.Arguments.{other_than_one, other_remainder, other_transfer, other_difference}
use Rattle.hep_machine.proofs.intrinsics.function_result.Goals as goal

pub returns-in_default-2 : goal.returns-in_default-2
returns-in_default-2 c = sym (ap (λ (f : PureFunction). function_result f (integers_of c.args.arguments.now)) c.in-AbsoluteValue.is ∙ other_than_one c.args.arguments.now (λ e. omega arith))

pub returns-in_default-arguments : goal.returns-in_default-arguments
returns-in_default-arguments c = sym (ap (λ (f : PureFunction). function_result f (integers_of c.args.arguments.now)) c.in-Remainder.is ∙ other_remainder c.args.arguments.now (λ e. omega arith))

pub returns-in_default-arguments-4 : goal.returns-in_default-arguments-4
returns-in_default-arguments-4 c = sym (ap (λ (f : PureFunction). function_result f (integers_of c.args.arguments.now)) c.in-Remainder.is ∙ other_remainder c.args.arguments.now (λ e. omega arith))

pub returns-in_default-arguments-2 : goal.returns-in_default-arguments-2
returns-in_default-arguments-2 c = sym (ap (λ (f : PureFunction). function_result f (integers_of c.args.arguments.now)) c.in-TransferOfSign.is ∙ other_transfer c.args.arguments.now (λ e. omega arith))

pub returns-in_default-arguments-2-2 : goal.returns-in_default-arguments-2-2
returns-in_default-arguments-2-2 c = sym (ap (λ (f : PureFunction). function_result f (integers_of c.args.arguments.now)) c.in-TransferOfSign.is ∙ other_transfer c.args.arguments.now (λ e. omega arith))

pub returns-in_default-arguments-3 : goal.returns-in_default-arguments-3
returns-in_default-arguments-3 c = sym (ap (λ (f : PureFunction). function_result f (integers_of c.args.arguments.now)) c.in-PositiveDifference.is ∙ other_difference c.args.arguments.now (λ e. omega arith))

pub returns-in_default-arguments-3-2 : goal.returns-in_default-arguments-3-2
returns-in_default-arguments-3-2 c = sym (ap (λ (f : PureFunction). function_result f (integers_of c.args.arguments.now)) c.in-PositiveDifference.is ∙ other_difference c.args.arguments.now (λ e. omega arith))
