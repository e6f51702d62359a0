use Rattle.std.proofs.Common.{◌≡◌, ◌+◌, List, length, length-append, ap, sym, subst, arith, None, Some, IfErr}
use Rattle.std.proofs.lemmas.Grind.{common_steps}
use Rattle.hep_machine.specs.Words.{trees_of}
use Rattle.hep_names.specs.Meanings.{meaning}
use Rattle.hep_code.specs.declared.instruction.Instruction.{Instruction}
use Rattle.hep_code.specs.Words.{actuals_code_in, argument_of, count, evaluating, trees_code}
use Rattle.hep_lower.specs.ArgumentLimits.{IsTooLong, subscripts_of_all}
use Rattle.hep_lower.specs.Names.{names_in}
use Rattle.hep_lower.specs.Uses.{evaluation_listed, operands_listed, reference_code}
use Rattle.hep_lower.proofs.ActualCode.{given_long}
use Rattle.hep_code.proofs.ListLengths.{count_length}
use Rattle.hep_lower.proofs.CodeLengths.{passes_count}
use Rattle.hep_lower.proofs.ExpressionRefusals.{long, of_list, weaker}
use Rattle.hep_lower.proofs.Uses.{listed_evaluated, listed_long, listed_referred, whole}
use Rattle.hep_lower.proofs.expressions.+emit_expression.Goals as goal

pub emit_listed-returns-in_err-used-clause-refused : goal.emit_listed-returns-in_err-used-clause-refused
emit_listed-returns-in_err-used-clause-refused t c =
    let n = names_in c.args.names.now in
    let m = meaning c.args.listed in
    let ts = trees_of c.args.list.now in
    long c.from_residual.result (count (operands_listed n m ts)) (length (whole n c.args.line m c.args.name.now ts)) c.in_err-used.ensures.refused (listed_long n c.args.line m c.args.name.now ts)

pub emit_listed-returns-in_err-emit_all-in-Some-clause-refused : goal.emit_listed-returns-in_err-emit_all-in-Some-clause-refused
emit_listed-returns-in_err-emit_all-in-Some-clause-refused t c =
    let n = names_in c.args.names.now in
    let m = meaning c.args.listed in
    let ts = trees_of c.args.list.now in
    let e = c.in-Some.evaluation in
    let r = c.from_residual-in_err-emit_all-in-Some.result in
    let same : Some e ≡ evaluation_listed n m c.args.name.now ts = rw c.in-Some.is at c.in_ok-used.ensures.evaluation in
    let right : trees_of c.in-Some.operands.now ≡ operands_listed n m ts = rw c.in-Some.is at c.in_ok-used.ensures.operands in
    subst (λ (xs : List Instruction). IfErr r (IsTooLong (length xs))) (sym (listed_evaluated n c.args.line m c.args.name.now ts e same))
    (of_list n c.args.line (trees_code n c.args.line (operands_listed n m ts)) (evaluating c.args.line e) r c.in_err-emit_all-in-Some.field-0.0 (trees_of c.in-Some.operands.now) (ap (trees_code n c.args.line) right)
    c.from_residual-in_err-emit_all-in-Some.ensures c.in_err-emit_all-in-Some.ensures.refused)

pub emit_listed-returns-in_ok-emit_all-in-Some-clause-code : goal.emit_listed-returns-in_ok-emit_all-in-Some-clause-code
emit_listed-returns-in_ok-emit_all-in-Some-clause-code t c =
    let n = names_in c.args.names.now in
    let m = meaning c.args.listed in
    let ts = trees_of c.args.list.now in
    let same : Some c.in-Some.evaluation ≡ evaluation_listed n m c.args.name.now ts = rw c.in-Some.is at c.in_ok-used.ensures.evaluation in
    let right : trees_of c.in-Some.operands.now ≡ operands_listed n m ts = rw c.in-Some.is at c.in_ok-used.ensures.operands in
    rw (listed_evaluated n c.args.line m c.args.name.now ts c.in-Some.evaluation same, ← right) (grind (arith, common_steps))

pub emit_listed-returns-in_ok-emit_actuals-in-None-clause-refused : goal.emit_listed-returns-in_ok-emit_actuals-in-None-clause-refused
emit_listed-returns-in_ok-emit_actuals-in-None-clause-refused t c =
    let n = names_in c.args.names.now in
    let m = meaning c.args.listed in
    let xs = c.args.list.now in
    let ts = trees_of xs in
    let same : None ≡ evaluation_listed n m c.args.name.now ts = rw c.in-None.is at c.in_ok-used.ensures.evaluation in
    weaker c.emit_reference.result (length xs + subscripts_of_all (argument_of n) xs) (length (whole n c.args.line m c.args.name.now ts)) c.emit_reference.ensures.refused
    (omega (arith, given_long n c.args.line xs, length-append (actuals_code_in n c.args.line ts) (reference_code n c.args.line c.args.name.now ts), passes_count n ts, count_length xs, ap length (listed_referred n c.args.line m c.args.name.now ts same)))
