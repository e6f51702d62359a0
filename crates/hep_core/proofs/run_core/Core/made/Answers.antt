use Rattle.std.proofs.Common.{length, sym, ap, ◌∙◌}
use Rattle.hep_machine.specs.Words.{State, schedule_of}
use Rattle.hep_core.proofs.Histories.{state-is}
use Rattle.hep_core.proofs.GoodTickets.{as-many}
use Rattle.hep_core.proofs.run_core.Core.made.Goals as goal

pub returns : goal.returns
returns c =
    let i = c.self.inside in
    rw (← c.self.view_is) (
    as-many i.image i.cells (schedule_of i.history.items) i.machine c.self.invariant.after.after
    ∙ ap (λ (s : State). length s.processes) (sym (state-is i.image i.history.items)))
