use Rattle.std.proofs.Common.{refl, subst}
use Rattle.hep_machine.specs.Words.{living_from, progress_after, ready_in, state_after}
use Rattle.hep_blocked.specs.Rosters.{want_of}
use Rattle.hep_state.specs.Words.{snapshot_of}
use Rattle.hep_core.specs.ProcessPlaces.{ArePlaces}
use Rattle.hep_core.proofs.IdleCores.{idle, no-more-ready}
use Rattle.hep_core.proofs.GoodTickets.{AreSeen, view-is}
use Rattle.hep_core.proofs.run_core.Core.headline.Goals as goal

pub returns-clause-view : goal.returns-clause-view
returns-clause-view c =
    let i = c.self.inside in
    let runs = c.is_runnable.ensures in
    let seen : AreSeen i.image i.cells = λ choices m. c.views_are_of_states.ensures i.image i.cells choices m runs.accepted runs.main in
    rw (← c.self.view_is) (view-is i.image i.cells i.history.items (snapshot_of i.machine) c.self.invariant.after.after seen)

pub returns-clause-waiting : goal.returns-clause-waiting
returns-clause-waiting c =
    let i = c.self.inside in
    let alive = living_from 1 (state_after i.image i.history.items).processes in
    rw (← c.self.view_is) (λ waiting.
    idle i.image i.cells i.history.items (want_of i.roster.waiting) i.roster.ready c.self.invariant.listed (no-more-ready i.stop alive (ready_in (progress_after i.image i.history.items)) waiting))

pub returns-clause-placed : goal.returns-clause-placed
returns-clause-placed c =
    let i = c.self.inside in
    subst ArePlaces c.self.view_is (record { machine = snapshot_of i.machine; after = c.self.invariant.after.after; places = refl })
