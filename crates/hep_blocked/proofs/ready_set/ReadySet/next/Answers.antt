use Rattle.std.proofs.Common.{◌∙◌, sym, slice_get}
use Rattle.hep_blocked.proofs.Listed.{first-least, first-other, first-some}
use Rattle.hep_blocked.proofs.ready_set.ReadySet.next.Goals as goal

pub returns-in-Some-clause-next : goal.returns-in-Some-clause-next
returns-in-Some-clause-next c =
    let ready = c.args.self.now.ready in
    sym (first-some c.args.last c.in-Some.p ready (slice_get ready 0) (sym c.first_above.ensures.next ∙ c.in-Some.is))

pub returns-in-None-clause-next : goal.returns-in-None-clause-next
returns-in-None-clause-next c =
    let ready = c.args.self.now.ready in
    c.first_above-in-None.ensures.next ∙ first-least c.args.self.now.room ready c.first_above.ensures.rising
    ∙ sym (first-other c.args.last ready (slice_get ready 0) (sym c.first_above.ensures.next ∙ c.in-None.is))
