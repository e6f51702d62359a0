use Rattle.std.proofs.Common.{◌∙◌}
use Rattle.hep_state.specs.Words.{snapshot_of}
use Rattle.hep_core.proofs.GoodTickets.{faults-are}
use Rattle.hep_core.proofs.run_core.Core.faults.Goals as goal

pub returns : goal.returns
returns c =
    let i = c.self.inside in
    rw (← c.self.view_is) (c.deref.ensures.value ∙ faults-are i.image i.cells i.history.items (snapshot_of i.machine) c.self.invariant.after.after)
