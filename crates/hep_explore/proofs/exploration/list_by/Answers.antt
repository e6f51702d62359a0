use Rattle.std.proofs.Common.{subst, sym}
use Rattle.hep_explore.specs.FoundOutcomes.{AreOutcomes, IsOutcomeBy, KeepsFound}
use Rattle.hep_explore.proofs.ListedOutcomes.{listed_by, with_kept, with_outcomes}
use Rattle.hep_explore.proofs.exploration.list_by.Goals as goal

pub found_by-requires : goal.found_by-requires
found_by-requires c = record { some = c.requires.cells.0; few = c.requires.cells.1; made = c.requires.made }

pub returns : goal.returns
returns c =
    let program = c.args.image.now in
    let cells = c.args.cells in
    let all = c.args.found.now.items in
    let one = c.in_ok-one.one in
    let is = c.in_ok-one.ensures in
    let new = sym c.in_ok-add.ensures in
    record {
      outcomes = subst (AreOutcomes program cells) new (with_outcomes program cells one all is.found c.requires.outcomes);
      kept = subst (KeepsFound all) new (with_kept program cells one all);
      listed = subst (IsOutcomeBy program cells c.args.choices.items) new (
          listed_by program cells c.args.choices.items one all is.by is.found);
    }
