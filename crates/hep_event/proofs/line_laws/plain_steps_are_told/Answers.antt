use Rattle.hep_event.proofs.PlainSteps.{plain-told}
use Rattle.hep_event.proofs.line_laws.plain_steps_are_told.Goals as goal

pub returns : goal.returns
returns c program t addresses after called operands index o behind lives made sound plain is_name is =
    plain-told program t addresses after called operands index o behind lives made sound plain is_name is
