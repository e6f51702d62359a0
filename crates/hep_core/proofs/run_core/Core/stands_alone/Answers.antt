use Rattle.std.proofs.Common.{◌≡◌, refl, ap, ◌∙◌, subst, sym}
use Rattle.hep_machine.specs.Words.{Units, unit_at}
use Rattle.hep_image.specs.Private.{private_cells}
use Rattle.hep_private.specs.OwnState.{begun}
use Rattle.hep_step.specs.Simulation.{unit_code}
use Rattle.hep_commit.specs.Batches.{HasNoPrivate}
use Rattle.hep_core.specs.Commits.{StandsAlone}
use Rattle.hep_core.specs.ProcessPlaces.{PlacedCore}
use Rattle.hep_core.proofs.Committing.{tops-of, turn-of}
use Rattle.hep_core.proofs.SettledMachines.{here-ahead, next-again, place-at, place_in, start-ahead}
use Rattle.hep_core.proofs.OutStates.{going-in, levels-in}
use Rattle.hep_core.proofs.run_core.Core.stands_alone.Goals as goal

pub stands_alone-requires-clause-numbers : goal.stands_alone-requires-clause-numbers
stands_alone-requires-clause-numbers c = c.self.invariant.after.numbers

pub stands_alone-requires-clause-living : goal.stands_alone-requires-clause-living
stands_alone-requires-clause-living c = levels-in c.self.inside c.self.invariant c.args.self.now c.self.view_is c.requires.going c.args.p c.requires.lives

pub returns : goal.returns
returns c alone =
    let i = c.self.inside in
    let k = c.self.invariant in
    let p = c.args.p in
    let going = going-in i k c.args.self.now c.self.view_is c.requires.going in
    let tops = tops-of i.image _ c.tops_are_running.ensures.running c.is_runnable.ensures.accepted c.is_runnable.ensures.main in
    let turn = turn-of i k p going (levels-in i k c.args.self.now c.self.view_is c.requires.going p c.requires.lives) in
    let e = turn.living in
    let program = c.requires.program ∙ ap (λ (v : PlacedCore). v.core.program) (sym c.self.view_is) in
    let none : HasNoPrivate i.image e.level.unit e.level.index = subst (λ (us : Units). HasNoPrivate us e.level.unit e.level.index) program (c.stands_alone.ensures alone e) in
    subst (λ (v : PlacedCore). StandsAlone v p) c.self.view_is (
      start-ahead turn tops,
      (place_in i.image e, place-at i.image e, here-ahead turn tops),
      λ values. next-again (private_cells (unit_at i.image e.level.unit)) (unit_code i.image e.level.unit) e.operands e.level.index values ∙ none (begun e.level.index e.operands values) refl,
    )
