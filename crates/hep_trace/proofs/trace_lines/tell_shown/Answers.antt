use Rattle.std.proofs.lemmas.Result.{IfOk-weaker}
use Rattle.hep_trace.proofs.TracedTurns.{hidden-so, shown-so}
use Rattle.hep_trace.proofs.trace_lines.tell_shown.Goals as goal

pub make_turn-requires : goal.make_turn-requires
make_turn-requires c = c.requires.replaying.standing

pub returns-then-line-clause-told : goal.returns-then-line-clause-told
returns-then-line-clause-told c =
    IfOk-weaker c.tell_turn.result _ _ (λ made told is. shown-so c.args.line.shown c.args.text.now.items c.tell_turn.new.text.items _ c.if-line.true (told is)) c.tell_turn.ensures.told

pub returns-else-line-clause-told : goal.returns-else-line-clause-told
returns-else-line-clause-told c =
    IfOk-weaker c.make_turn.result _ _ (λ made turn is. hidden-so c.args.line.shown c.args.text.now.items _ c.if-line.false) c.make_turn.ensures.made
