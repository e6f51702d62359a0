use Rattle.std.proofs.Common.{◌∙◌, refl, sym}
use Rattle.hep_machine.specs.Words.{living}
use Rattle.hep_core.specs.CoreValues.{state_of}
use Rattle.hep_core.proofs.OtherTickets.{chosen-good, good-itself}
use Rattle.hep_core.proofs.GoodTickets.{some-of}
use Rattle.hep_core.proofs.run_core.Core.turns_at_once.Goals as goal

-- what was looked at before
pub returns-in-Some-clause-kept : goal.returns-in-Some-clause-kept
returns-in-Some-clause-kept c = good-itself c.args.self.now c.args.self.now refl

pub run_at_once-requires-clause-free : goal.run_at_once-requires-clause-free
run_at_once-requires-clause-free c = (
  c.in_default.ensures.none,
  some-of (living (state_of c.args.self.now.core) c.in_ok-p.p) (sym c.lives.ensures ∙ c.if-not-lives.false),
  sym c.is_out.ensures ∙ c.if-is_out.false,
)

pub run_at_once-requires-clause-next : goal.run_at_once-requires-clause-next
run_at_once-requires-clause-next c = sym c.next_ready.ensures ∙ c.in_ok-p.was

pub returns-clause-kept : goal.returns-clause-kept
returns-clause-kept c = chosen-good c.in_ok-p.p c.args.self.now c.run_at_once.new.self (sym c.is_out.ensures ∙ c.if-is_out.false) (c.run_at_once.ensures.others c.if-not-run_at_once.false)
