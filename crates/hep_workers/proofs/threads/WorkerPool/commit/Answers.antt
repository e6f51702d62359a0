use Rattle.std.proofs.Common.{subst}
use Rattle.hep_core.specs.Offers.{offered}
use Rattle.hep_workers.specs.LockedCalls.{IsTurned}
use Rattle.hep_workers.proofs.SharedCalls.{turned-last}
use Rattle.hep_workers.proofs.threads.WorkerPool.commit.Goals as goal

pub returns-in-Ok : goal.returns-in-Ok
returns-in-Ok g c =
    let old = c.args.core.now.core in
    let new = c.turn.new.self.core in
    let s = offered g.K.RunBrand.opening.program c.args.offer.now in
    λ yes. turned-last old new s (subst (λ r. IsTurned old s r new) c.in-Ok.is c.turn.ensures)
