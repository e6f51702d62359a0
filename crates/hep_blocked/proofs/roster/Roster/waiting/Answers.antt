use Rattle.std.proofs.Common.{sym, ap, ◌∙◌}
use Rattle.hep_blocked.specs.Rosters.{place_of}
use Rattle.hep_blocked.specs.Waiting.{waiting_at}
use Rattle.hep_blocked.proofs.Ranks.{want-mapped}
use Rattle.hep_blocked.proofs.roster.Roster.waiting.Goals as goal

pub returns : goal.returns
returns c =
    let i = c.self.inside in
    let place = c.place_of.ensures.place ∙ ap (λ ns. place_of ns c.args.p) c.deref.ensures.value in
    rw (← c.self.view_is) (c.waiting.ensures ∙ (ap (waiting_at i.waits) place ∙ sym (want-mapped c.args.p 1 i.last i.numbers.items i.waits c.self.invariant.rising)))
