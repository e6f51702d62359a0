use Rattle.std.proofs.Common.{sym, ◌∙◌, arith}
use Rattle.hep_output.proofs.Digits.{if_none, marked, same_numbers}
use Rattle.hep_replay.proofs.Digits.{entry_is}
use Rattle.hep_replay.proofs.history_text.EntryFromLine.from_front.Goals as goal

pub returns-in_err-steps-clause-none : goal.returns-in_err-steps-clause-none
returns-in_err-steps-clause-none c = if_none c.from_residual-in_err-steps.result _ (λ e more h is.
    let same = same_numbers c.in_ok-process.process e.process 32 c.in_ok-process.rest_after.now (marked e.steps 10 more) (omega (arith, c.in_ok-process.ensures.within)) (omega arith) (omega arith) (
    sym c.in_ok-process.ensures.found ∙ is ∙ entry_is e more) in
    c.in_err-steps.ensures.none e.steps more h.1 same.1)

pub returns-then-process-eq0-clause-none : goal.returns-then-process-eq0-clause-none
returns-then-process-eq0-clause-none c e more h is =
    let same = same_numbers c.in_ok-process.process e.process 32 c.in_ok-process.rest_after.now (marked e.steps 10 more) (omega (arith, c.in_ok-process.ensures.within)) (omega arith) (omega arith) (
    sym c.in_ok-process.ensures.found ∙ is ∙ entry_is e more) in
    omega (arith, same.0)
