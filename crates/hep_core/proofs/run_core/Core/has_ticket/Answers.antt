use Rattle.std.proofs.Common.{◌≢◌, ◌∙◌, None, ap, subst, sym}
use Rattle.hep_machine.specs.Words.{living}
use Rattle.hep_core.specs.ProcessPlaces.{PlacedCore}
use Rattle.hep_core.specs.Tickets.{has_ticket}
use Rattle.hep_core.specs.CoreValues.{state_of}
use Rattle.hep_core.proofs.ProcessesOut.{out-by}
use Rattle.hep_core.proofs.run_core.Core.has_ticket.Goals as goal

pub returns-clause-lives : goal.returns-clause-lives
returns-clause-lives c is =
    let out = c.self.inside.out.items in
    let same = ap (has_ticket c.args.id) (sym c.deref.ensures.value) ∙ (sym c.has_ticket.ensures ∙ is) in
    subst (λ (v : PlacedCore). living (state_of v.core) c.args.id.process ≢ None) c.self.view_is (c.self.invariant.living c.args.id.process (out-by c.args.id out same))
