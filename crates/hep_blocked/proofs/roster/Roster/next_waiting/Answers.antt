use Rattle.std.proofs.Common.{◌≡◌, ◌≢◌, ◌<◌, ℕ, None, length, sym, ap, ◌∙◌, subst, arith}
use Rattle.hep_blocked.specs.Rosters.{number_at, places_to, waiting_in, want_of}
use Rattle.hep_blocked.proofs.Rosters.{found-above, none-above, waits-within}
use Rattle.hep_blocked.proofs.roster.Roster.next_waiting.Goals.{After-next_after}
use Rattle.hep_blocked.proofs.roster.Roster.next_waiting.Goals as goal

-- how many places aren't above p
to : (c : After-next_after) → c.places_to.result ≡ places_to c.self.inside.numbers.items c.args.p
to c = c.places_to.ensures ∙ ap (λ ns. places_to ns c.args.p) c.deref.ensures.value

pub returns-in_err-place-clause-none : goal.returns-in_err-place-clause-none
returns-in_err-place-clause-none c =
    let i = c.self.inside in
    let k = c.self.invariant in
    let ns = i.numbers.items in
    let xs = i.ready.ready in
    let at = (goal.at.returns-in_err-place-clause-none c).After-next_after in
    rw (c.from_residual.ensures, ← c.self.view_is) (none-above i.last ns xs i.waits k.rising k.ready c.args.p (λ m above. c.in_err-place.ensures.none m (omega (arith, above, to at))))

pub number_at-requires-clause-inside : goal.number_at-requires-clause-inside
number_at-requires-clause-inside c =
    let i = c.self.inside in
    let k = c.self.invariant in
    let ns = i.numbers.items in
    let xs = i.ready.ready in
    omega (arith, ap length c.deref-2.ensures.value, (waits-within i.last ns xs i.waits k.rising k.ready c.in_ok-place.place k.waiting c.in_ok-place.ensures.found.1).1)

pub returns-clause-found : goal.returns-clause-found
returns-clause-found c =
    let i = c.self.inside in
    let k = c.self.invariant in
    let ns = i.numbers.items in
    let xs = i.ready.ready in
    let at = (goal.at.returns-clause-found c).After-next_after in
    let x = c.in_ok-place.place in
    let found = c.in_ok-place.ensures.found in
    let number = c.number_at.ensures ∙ ap (λ ms. number_at ms x) c.deref-2.ensures.value in
    rw (← c.self.view_is) (
    subst (λ n. (c.args.p < n) × (want_of (waiting_in ns i.waits) n ≢ None) × ((r : ℕ) → c.args.p < r → r < n → want_of (waiting_in ns i.waits) r ≡ None)) (sym number) (
    found-above i.last ns xs i.waits k.rising k.ready c.args.p x k.waiting (omega (arith, found.0, to at)) found.1 (λ m above below. found.2 m (omega (arith, above, to at)) below)))
