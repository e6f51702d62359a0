use Rattle.hep_accesses.proofs.Pasts.{before-at-complete, before-at-sound}
use Rattle.hep_accesses.proofs.laws.pasts_are_what_is_before.Goals as goal

pub returns : goal.returns
returns c es i k e f = (before-at-sound es i k e f, before-at-complete es i k e f)
