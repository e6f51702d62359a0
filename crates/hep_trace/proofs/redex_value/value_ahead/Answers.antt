use Rattle.std.proofs.Common.{◌∙◌, ap, sym}
use Rattle.std.proofs.lemmas.Option.{none-some, same_Some}
use Rattle.hep_step.specs.Replies.{reply_meant}
use Rattle.hep_event.proofs.FoundVariables.{levels-of}
use Rattle.hep_trace.proofs.ReplyValues.{given-is}
use Rattle.hep_trace.specs.RedexValues.{value_replied}
use Rattle.hep_trace.proofs.redex_value.value_ahead.Goals as goal

pub reply_ahead-requires-clause-levels : goal.reply_ahead-requires-clause-levels
reply_ahead-requires-clause-levels c = levels-of c.requires.3.lives

pub returns-in_err-reply : goal.returns-in_err-reply
returns-in_err-reply c cells choices top q ahead next =
    let w = levels-of ahead.lives in
    let law = c.replies_are_answers.ensures c.args.ahead.now.image.now cells choices c.args.ahead.now.process c.args.ahead.now.machine.now c.args.ahead.now.coming.now w top q
    c.is_runnable.ensures.accepted c.is_runnable.ensures.main ahead.lives.running ahead.lives.after ahead.coming ahead.lives.lives next in
    absurd (none-some law.0 (c.in_err-reply.ensures w ∙ law.1))

pub returns : goal.returns
returns c cells choices top q ahead next =
    let w = levels-of ahead.lives in
    let law = c.replies_are_answers.ensures c.args.ahead.now.image.now cells choices c.args.ahead.now.process c.args.ahead.now.machine.now c.args.ahead.now.coming.now w top q
    c.is_runnable.ensures.accepted c.is_runnable.ensures.main ahead.lives.running ahead.lives.after ahead.coming ahead.lives.lives next in
    let same = same_Some (reply_meant c.in_ok-reply.reply) law.0 (c.in_ok-reply.ensures w ∙ law.1) in
    c.value_of.ensures ∙ ap value_replied same ∙ sym (given-is _ _ law.0 _ law.2)
