use Rattle.hep_machine.specs.Words.{unit_at}
use Rattle.hep_image.proofs.Numbers.{unit-there}
use Rattle.hep_event.proofs.VariableNames.{one-name}
use Rattle.hep_event.proofs.name_laws.variables_tell_names.Goals as goal

pub returns : goal.returns
returns c program u x y inside same placed = one-name program u (unit_at program u) (unit-there program u inside) x y same placed
