use Rattle.std.proofs.Common.{◌∙◌, ◌++◌, Bool, Ok, append-nil, ap, arith, subst, sym}
use Rattle.std.proofs.lemmas.Result.{IfOk-weaker}
use Rattle.hep_trace.specs.Observations.{name_sought}
use Rattle.hep_why.specs.Progress.{TurnMade}
use Rattle.hep_trace.specs.TraceProgress.{progress_of}
use Rattle.hep_trace.proofs.TracedTurns.{no-turn, runs}
use Rattle.hep_trace.proofs.trace_lines.tell_turn.Goals as goal

pub returns-then-is_some-clause-made : goal.returns-then-is_some-clause-made
returns-then-is_some-clause-made c =
    no-turn c.args.core.now.core c.args.line.process c.args.waits c.stop.result (sym c.is_some.ensures ∙ c.if-is_some.true) c.stop.ensures.stop c.requires.replaying.standing

pub is_silent-requires-clause-running : goal.is_silent-requires-clause-running
is_silent-requires-clause-running c = runs c.args.core.now.core c.stop.result (sym c.is_some.ensures ∙ c.if-is_some.false) c.stop.ensures.none

-- where it has no line
pub make_turn-requires : goal.make_turn-requires
make_turn-requires c = c.requires.replaying.standing

pub returns-then-is_silent-clause-told : goal.returns-then-is_silent-clause-told
returns-then-is_silent-clause-told c =
    IfOk-weaker c.make_turn.result _ _ (λ made turn is.
    sym (append-nil c.args.text.now.items)
    ∙ ap (λ l. c.args.text.now.items ++ l) (sym (c.is_silent.ensures c.if-is_silent.true c.args.line.number (progress_of c.make_turn.new.core.core))))
    c.make_turn.ensures.made

pub look-requires-clause-running : goal.look-requires-clause-running
look-requires-clause-running c = runs c.args.core.now.core c.stop.result (sym c.is_some.ensures ∙ c.if-is_some.false) c.stop.ensures.none

pub look-requires-clause-few : goal.look-requires-clause-few
look-requires-clause-few c = omega (arith, c.requires.replaying.turns, c.requires.replaying.within)

pub make_turn-requires-2 : goal.make_turn-requires-2
make_turn-requires-2 c = c.requires.replaying.standing

pub returns-then-not-branch-clause-made : goal.returns-then-not-branch-clause-made
returns-then-not-branch-clause-made c =
    subst (λ (b : Bool). TurnMade c.args.core.now.core c.args.line.process c.args.waits (Ok b) c.make_turn-2.new.core.core) c.if-not-branch.true c.in_ok-make_turn.ensures.made

pub append_line-requires : goal.append_line-requires
append_line-requires c = (
  c.args.core.now.core,
  c.args.line.process,
  name_sought c.args.teller.now.page.now.cell,
  c.in_ok-sight.ensures,
  c.in_ok-make_turn.ensures.turned c.if-not-branch.false,
)

pub returns-clause-made : goal.returns-clause-made
returns-clause-made c =
    subst (λ (b : Bool). TurnMade c.args.core.now.core c.args.line.process c.args.waits (Ok b) c.make_turn-2.new.core.core) c.if-not-branch.false c.in_ok-make_turn.ensures.made

pub returns-clause-told : goal.returns-clause-told
returns-clause-told c is =
    c.in_ok-append_line.ensures c.args.core.now.core c.args.line.process (name_sought c.args.teller.now.page.now.cell) c.in_ok-sight.ensures (
    c.in_ok-make_turn.ensures.turned c.if-not-branch.false)
