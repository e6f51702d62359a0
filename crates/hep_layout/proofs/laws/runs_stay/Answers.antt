use Rattle.hep_layout.proofs.Runs.{runs-entered, runs-left}
use Rattle.hep_layout.proofs.laws.runs_stay.Goals as goal

pub returns : goal.returns
returns c = record { enters = runs-entered; leaves = runs-left }
