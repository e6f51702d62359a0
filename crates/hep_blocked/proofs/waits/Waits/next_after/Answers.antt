use Rattle.std.proofs.Common.{◌∙◌}
use Rattle.hep_blocked.proofs.RanksAbove.{next-found, next-none, next-told}
use Rattle.hep_blocked.proofs.waits.Waits.next_after.Goals as goal

pub returns-clause-next : goal.returns-clause-next
returns-clause-next c =
    let told = next-told c.self.inside.wanted.items c.self.inside.numbers c.args.p c.self.invariant.2 c.first_above.ensures.rising in
    rw (← c.self.view_is) (c.first_above.ensures.next ∙ told)

pub returns-clause-found : goal.returns-clause-found
returns-clause-found c = next-found c.args.self.now c.args.p c.first_above.result (returns-clause-next c)

pub returns-clause-none : goal.returns-clause-none
returns-clause-none c = next-none c.args.self.now c.args.p c.first_above.result (returns-clause-next c)
