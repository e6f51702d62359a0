use Rattle.hep_machine.proofs.Held.{held_is}
use Rattle.hep_machine.proofs.laws.held_by_stacks_and_children.Goals as goal

pub returns : goal.returns
returns c = held_is
