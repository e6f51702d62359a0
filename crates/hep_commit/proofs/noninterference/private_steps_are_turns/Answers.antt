use Rattle.hep_commit.proofs.Turns.{turns-made}
use Rattle.hep_commit.proofs.noninterference.private_steps_are_turns.Goals as goal

pub returns : goal.returns
returns c t n records end accepted main few turns is = turns-made c.tops_are_running.ensures.running c.tops_are_running.ensures.arrays t n records end accepted main few turns is
