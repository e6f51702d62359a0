use Rattle.std.proofs.Common.{refl}
use Rattle.hep_blocked.specs.WaitQueues.{list_of}
use Rattle.hep_blocked.proofs.Numbering.{numbers-none}
use Rattle.hep_blocked.proofs.QueueInvariants.{tied-none}
use Rattle.hep_blocked.proofs.waits.Waits.new.Goals as goal

pub invariant_of-result : goal.invariant_of-result
invariant_of-result c =
    let tied = tied-none (list_of c.new-2.result) c.new.result.items c.new.ensures.items (λ want. rw c.new-2.ensures.empty refl) in
    let numbers = numbers-none c.new.result.items c.new-3.result c.new.ensures.items c.new-3.ensures.ready in
    (tied, c.new-2.ensures.unique, numbers)
