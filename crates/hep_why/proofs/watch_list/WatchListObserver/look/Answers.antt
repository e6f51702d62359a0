use Rattle.hep_machine.specs.Words.{run}
use Rattle.hep_fold.proofs.MachineTurns.{who-steps-lives}
use Rattle.hep_why.proofs.watch_list.WatchListObserver.look.Goals as goal

pub change_by-requires : goal.change_by-requires
change_by-requires c =
    let at = c.requires in
    let program = c.args.image.now in
    (at.replay.cells, at.made, at.under_way.after, who-steps-lives program c.args.p (run program at.made) at.under_way.steps.0)

pub returns : goal.returns
returns c at =
    let program = c.args.image.now in
    let after = at.under_way.after in
    record {
      activations = after.after.shows.activations;
      change = c.change_by.ensures at.replay.cells at.made after
          (who-steps-lives program c.args.p (run program at.made) at.under_way.steps.0);
    }
