use Rattle.hep_event.proofs.ToldSteps.{step-told}
use Rattle.hep_event.proofs.line_laws.steps_are_told.Goals as goal

pub returns : goal.returns
returns c program t addresses after seen operands index o behind lives made sound is_seen is =
    step-told program t addresses after seen operands index o behind lives made sound is_seen.numbers is is_seen.is_so
