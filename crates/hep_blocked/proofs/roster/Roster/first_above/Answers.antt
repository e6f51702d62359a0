use Rattle.std.proofs.Common.{◌≡◌, None, Some, length, sym, ap, ◌∙◌, arith}
use Rattle.hep_machine.specs.Words.{first_above}
use Rattle.hep_blocked.specs.Rosters.{number_at, places_to}
use Rattle.hep_blocked.proofs.Ranks.{first-mapped, numbered, rise-mapped}
use Rattle.hep_blocked.proofs.Rosters.{found-place}
use Rattle.hep_blocked.proofs.roster.Roster.first_above.Goals.{After-first_above}
use Rattle.hep_blocked.proofs.roster.Roster.first_above.Goals as goal

-- how many places aren't above p
to : (c : After-first_above) → c.places_to.result ≡ places_to c.self.inside.numbers.items c.args.p
to c = c.places_to.ensures ∙ ap (λ ns. places_to ns c.args.p) c.deref.ensures.value

pub returns-in_err-place-clause-next : goal.returns-in_err-place-clause-next
returns-in_err-place-clause-next c =
    let i = c.self.inside in
    let k = c.self.invariant in
    let ns = i.numbers.items in
    let xs = i.ready.ready in
    let at = (goal.at.returns-in_err-place-clause-next c).After-first_above in
    rw (← c.self.view_is) (
    c.from_residual.ensures
    ∙ (ap (numbered ns) (c.in_err-place.ensures.next ∙ ap (λ m. first_above m xs None) (to at))
    ∙ sym (first-mapped c.args.p i.last ns xs k.rising k.ready)))

pub returns-in_err-place-clause-rising : goal.returns-in_err-place-clause-rising
returns-in_err-place-clause-rising c =
    let i = c.self.inside in
    let k = c.self.invariant in
    let ns = i.numbers.items in
    let xs = i.ready.ready in
    rw (← c.self.view_is) (rise-mapped i.ready.room i.last ns xs k.rising c.first_above.ensures.rising k.ready)

pub number_at-requires-clause-some : goal.number_at-requires-clause-some
number_at-requires-clause-some c =
    let i = c.self.inside in
    let k = c.self.invariant in
    let ns = i.numbers.items in
    let xs = i.ready.ready in
    (found-place i.last ns xs i.waits k.rising k.ready i.ready.room c.places_to.result c.in_ok-place.place c.first_above.ensures.rising c.in_ok-place.ensures.next).0

pub number_at-requires-clause-inside : goal.number_at-requires-clause-inside
number_at-requires-clause-inside c =
    let i = c.self.inside in
    let k = c.self.invariant in
    let ns = i.numbers.items in
    let xs = i.ready.ready in
    omega (arith, ap length c.deref-2.ensures.value, (found-place i.last ns xs i.waits k.rising k.ready i.ready.room c.places_to.result c.in_ok-place.place c.first_above.ensures.rising c.in_ok-place.ensures.next).1)

pub returns-clause-next : goal.returns-clause-next
returns-clause-next c =
    let i = c.self.inside in
    let k = c.self.invariant in
    let ns = i.numbers.items in
    let xs = i.ready.ready in
    let at = (goal.at.returns-clause-next c).After-first_above in
    rw (← c.self.view_is) (
    ap Some (c.number_at.ensures ∙ ap (λ ms. number_at ms c.in_ok-place.place) c.deref-2.ensures.value)
    ∙ (ap (numbered ns) (c.in_ok-place.ensures.next ∙ ap (λ m. first_above m xs None) (to at))
    ∙ sym (first-mapped c.args.p i.last ns xs k.rising k.ready)))

pub returns-clause-rising : goal.returns-clause-rising
returns-clause-rising c =
    let i = c.self.inside in
    let k = c.self.invariant in
    let ns = i.numbers.items in
    let xs = i.ready.ready in
    rw (← c.self.view_is) (rise-mapped i.ready.room i.last ns xs k.rising c.first_above.ensures.rising k.ready)
