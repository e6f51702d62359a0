use Rattle.std.proofs.Common.{◌++◌, replicate}
use Rattle.hep_commit.proofs.Lists.{far-on}
use Rattle.hep_commit.proofs.Turns.{turns-made}
use Rattle.hep_commit.proofs.noninterference.private_steps_leave_lists.Goals as goal

pub returns : goal.returns
returns c t n records end x waits ready accepted main few turns is listed =
    let made = turns-made c.tops_are_running.ensures.running c.tops_are_running.ensures.arrays t n records end accepted main few turns is in
    (far-on c.lists_go_along_with_steps.ensures t.program t.cells t.process waits ready t.choices n (t.choices ++ replicate n t.process) x made.gone (record {
      layout = turns.after.layout;
      laid = turns.after.laid;
      listed = listed;
    })).listed
