use Rattle.hep_accepted_laws.proofs.Nested.{none_stray, none_unclosed}
use Rattle.hep_accepted_laws.proofs.control.blocks_are_matched.Goals as goal

pub returns : goal.returns
returns c = record { stray = none_stray; unclosed = none_unclosed }
