use Rattle.std.proofs.Common.{◌+◌}
use Rattle.hep_core.proofs.OutStates.{out-kept}
use Rattle.hep_core.proofs.run_core.Core.count_ticket.Goals as goal

pub invariant_of-self : goal.invariant_of-self
invariant_of-self c = out-kept c.self.inside c.self.invariant c.self.inside.out (c.self.inside.given + 1) c.self.invariant.living
