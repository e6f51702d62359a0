use Rattle.std.proofs.Common.{subst}
use Rattle.hep_private.specs.Segments.{IsMadeBy, value_copied}
use Rattle.hep_tests.proofs.tests.computed.Goals as goal

pub returns : goal.returns
returns c =
    subst (λ program. IsMadeBy program c.compute.result) c.image.ensures (value_copied c.args.ticket.now.copies, c.compute.ensures.made)
