use Rattle.std.proofs.Common.{ap, sym, ◌∙◌, is_some}
use Rattle.hep_machine.specs.Words.{living, schedule_of, State}
use Rattle.hep_core.proofs.Histories.{state-is}
use Rattle.hep_core.proofs.run_core.Core.lives.Goals as goal

pub lives-requires : goal.lives-requires
lives-requires c = c.self.invariant.after.numbers

pub returns : goal.returns
returns c =
    let i = c.self.inside in
    rw (← c.self.view_is) (
    c.lives.ensures.lives i.image i.cells (schedule_of i.history.items) c.self.invariant.after.after
    ∙ ap (λ (s : State). is_some (living s c.args.p)) (sym (state-is i.image i.history.items)))
