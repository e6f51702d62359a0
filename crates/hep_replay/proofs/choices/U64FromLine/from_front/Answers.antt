use Rattle.std.proofs.Common.{sym, ◌∙◌, arith}
use Rattle.hep_output.proofs.Digits.{same_numbers}
use Rattle.hep_replay.proofs.Digits.{choice_is}
use Rattle.hep_replay.proofs.choices.U64FromLine.from_front.Goals as goal

pub returns-then-process-eq0-clause-none : goal.returns-then-process-eq0-clause-none
returns-then-process-eq0-clause-none c p more h e =
    let same = same_numbers c.in_ok-process.process p 10 c.in_ok-process.rest.now more (omega (arith, c.in_ok-process.ensures.within)) (omega arith) (omega arith) (
    sym c.in_ok-process.ensures.found ∙ e ∙ choice_is p more) in
    omega (arith, same.0)
