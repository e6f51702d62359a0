use Rattle.std.proofs.Common.{refl}
use Rattle.hep_workers.proofs.Reasons.{of-run, opening_for}
use Rattle.hep_workers.proofs.threads.run_unlogged.Goals as goal

pub returns-clause-run : goal.returns-clause-run
returns-clause-run g c =
    let options = c.args.options.now in
    of-run (opening_for c.args.image options) c.in_ok-core.field-0.core.core c.args.image options refl c.in_ok-core.ensures.left.run

pub returns-clause-turns : goal.returns-clause-turns
returns-clause-turns g c = (c.in_ok-core.field-0.core.places, c.in_ok-core.ensures.left.shared)
