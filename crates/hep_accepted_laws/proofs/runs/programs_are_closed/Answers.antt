use Rattle.hep_accepted_laws.proofs.Closed.{closed, main-plain}
use Rattle.hep_accepted_laws.proofs.runs.programs_are_closed.Goals as goal

pub returns : goal.returns
returns c = record { closed = closed c.arrays_have_shapes.ensures.constant; main = main-plain }
