use Rattle.std.proofs.Common.{arith}
use Rattle.hep_outcome.proofs.MadeTranscripts.{some-made}
use Rattle.hep_outcome.proofs.random.drawn_anew.Goals as goal

pub nonzero_rem-start : goal.nonzero_rem-start
nonzero_rem-start c = omega (arith, c.made.ensures, some-made c.args.core.now.core.program c.args.core.now.core.history)
