use Rattle.hep_accesses.proofs.Clocks.{clock-complete, clock-sound}
use Rattle.hep_accesses.proofs.laws.clocks_tell_what_is_before.Goals as goal

pub returns : goal.returns
returns c es i k d e g f = (clock-sound es i k d e g f, clock-complete es i k d e g f)
