use Rattle.hep_machine.proofs.Replays.{legal_steps, replayed}
use Rattle.hep_machine.proofs.laws.legal_histories_replay.Goals as goal

pub returns : goal.returns
returns c = record { steps = legal_steps; state = replayed }
