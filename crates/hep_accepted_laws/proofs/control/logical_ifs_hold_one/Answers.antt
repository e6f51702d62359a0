use Rattle.hep_accepted_laws.proofs.Nested.{one_is_held, held_is_allowed}
use Rattle.hep_accepted_laws.proofs.control.logical_ifs_hold_one.Goals as goal

pub returns : goal.returns
returns c = record { condition = one_is_held; held = held_is_allowed }
