use Rattle.hep_accepted_laws.proofs.Nested.{blocks_end_within, blocks_hold_whole}
use Rattle.hep_accepted_laws.proofs.control.ranges_and_blocks_are_nested.Goals as goal

pub returns : goal.returns
returns c = record { within = blocks_end_within; whole = blocks_hold_whole }
