use Rattle.hep_commit.proofs.Turns.{none-left-out}
use Rattle.hep_commit.proofs.noninterference.private_steps_have_room.Goals as goal

pub returns : goal.returns
returns c t accepted main few turns shallow = none-left-out c.tops_are_running.ensures.running c.tops_are_running.ensures.arrays t accepted main few turns shallow
