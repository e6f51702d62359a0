use Rattle.hep_layout.proofs.FrameRows.{argument-first, bounds-first, iteration-first, variable-first}
use Rattle.hep_layout.proofs.laws.parts_in_order.Goals as goal

pub returns : goal.returns
returns c = record {
  argument = λ unit x k e. let entry = argument-first unit x k e in (entry.begins, entry.sized);
  variable = λ unit x h. let entry = variable-first unit x h in (entry.begins, entry.sized);
  iteration = λ unit d s e h. let entry = iteration-first unit d s e h in (entry.begins, entry.sized);
  bounds = λ unit x k e. let entry = bounds-first unit x k e in (entry.begins, entry.sized);
}
