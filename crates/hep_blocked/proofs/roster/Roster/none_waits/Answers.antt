use Rattle.std.proofs.Common.{sym, ◌∙◌}
use Rattle.hep_blocked.specs.Rosters.{number_at, place_of}
use Rattle.hep_blocked.proofs.Ranks.{want-mapped}
use Rattle.hep_blocked.proofs.Rosters.{waits-within, want-at}
use Rattle.hep_blocked.proofs.roster.Roster.none_waits.Goals as goal

pub returns-clause-nobody : goal.returns-clause-nobody
returns-clause-nobody c none p =
    let i = c.self.inside in
    let ns = i.numbers.items in
    rw (← c.self.view_is) (want-mapped p 1 i.last ns i.waits c.self.invariant.rising ∙ c.is_empty.ensures.nobody none (place_of ns p))

pub returns-clause-somebody : goal.returns-clause-somebody
returns-clause-somebody c some =
    let i = c.self.inside in
    let k = c.self.invariant in
    let ns = i.numbers.items in
    let xs = i.ready.ready in
    let s = c.is_empty.ensures.somebody some in
    let within = waits-within i.last ns xs i.waits k.rising k.ready s.0 k.waiting s.1 in
    rw (← c.self.view_is) (number_at ns s.0, λ e. s.1 (sym (want-at i.last ns xs i.waits k.rising k.ready s.0 within.0 within.1) ∙ e))
