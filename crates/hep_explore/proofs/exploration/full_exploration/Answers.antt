use Rattle.std.proofs.Common.{arith, refl, subst, sym, true}
use Rattle.std.proofs.lemmas.Option.{slice_get_within}
use Rattle.hep_machine.specs.Words.{AreSteps, opening}
use Rattle.hep_explore.specs.FoundOutcomes.{AreOutcomes}
use Rattle.hep_explore.proofs.CountedStates.{no_states}
use Rattle.hep_explore.proofs.ListedOutcomes.{no_outcomes}
use Rattle.hep_explore.proofs.NoOther.{full_is_listed, is_explored}
use Rattle.hep_explore.proofs.exploration.full_exploration.Goals as goal

pub list_by-requires-clause-made : goal.list_by-requires-clause-made
list_by-requires-clause-made c = subst (AreSteps c.args.image.now (opening c.args.image.now)) (sym c.new.ensures.items) tt

pub list_by-requires-clause-outcomes : goal.list_by-requires-clause-outcomes
list_by-requires-clause-outcomes c =
    subst (AreOutcomes c.args.image.now c.args.cells) (sym c.new-found.ensures.items) (no_outcomes c.args.image.now c.args.cells)

pub returns : goal.returns
returns c =
    let program = c.args.image.now in
    let cells = c.args.cells in
    let all = c.list_by.new.found.items in
    let is = c.in_ok-list_by.ensures in
    let some = slice_get_within all is.listed.place is.listed.found is.listed.at in
    record {
      explored = is_explored program cells all true is.outcomes (
          λ yes o possible. full_is_listed program cells c.requires.full all is.outcomes (omega arith) o possible);
      states = no_states program cells c.requires.full all true;
      none = refl;
      complete = refl;
    }
