use Rattle.hep_state.proofs.BegunActivations.{made-shown}
use Rattle.hep_state.proofs.laws.calls_are_shown.Goals as goal

pub returns : goal.returns
returns c way t u key kept index actuals b arena nodes turning = made-shown turning u actuals b way key kept index arena nodes
