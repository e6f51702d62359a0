use Rattle.std.proofs.Common.{◌≡◌, ◌≤◌, true, map, sym, ap, ◌∙◌, subst, arith}
use Rattle.hep_machine.specs.Words.{is_number_among, without}
use Rattle.hep_blocked.specs.RosterUpdates.{WaitsNow}
use Rattle.hep_blocked.specs.Rosters.{RosterValue, is_enrolled, number_at, place_of}
use Rattle.hep_blocked.specs.Waiting.{waiting_at}
use Rattle.hep_blocked.proofs.Ranks.{ArePlaces, place-within}
use Rattle.hep_blocked.proofs.Rosters.{has-place, places-without, ready-no-more, waits-mapped}
use Rattle.hep_blocked.proofs.roster.Roster.block.Goals.{After-place_of-place, After-remove}
use Rattle.hep_blocked.proofs.roster.Roster.block.Goals as goal

placed : (c : After-place_of-place) → c.place_of-place.result ≡ place_of c.self.inside.numbers.items c.args.p
placed c = c.place_of-place.ensures.place ∙ ap (λ ns. place_of ns c.args.p) c.deref.ensures.value

has : (c : After-place_of-place) → 1 ≤ place_of c.self.inside.numbers.items c.args.p
has c =
    let i = c.self.inside in
    let k = c.self.invariant in
    let ns = i.numbers.items in
    let xs = i.ready.ready in
    has-place i.last ns xs i.waits k.rising k.ready c.args.p (subst (λ (r : RosterValue). is_enrolled r c.args.p ≡ true) (sym c.self.view_is) c.requires.enrolled)

left : (c : After-remove) → c.remove.new.self.ready ≡ without (place_of c.self.inside.numbers.items c.args.p) c.self.inside.ready.ready
left c = c.remove.ensures.ready ∙ ap (λ m. without m c.self.inside.ready.ready) (c.place_of-place.ensures.place ∙ ap (λ ns. place_of ns c.args.p) c.deref.ensures.value)

pub hold-requires : goal.hold-requires
hold-requires c = let at = (goal.at.hold-requires c).After-place_of-place in omega (arith, placed at, has at)

pub invariant_of-self-2 : goal.invariant_of-self-2
invariant_of-self-2 c =
    let i = c.self.inside in
    let k = c.self.invariant in
    let ns = i.numbers.items in
    let xs = i.ready.ready in
    let at = (goal.at.invariant_of-self-2 c).After-place_of-place in
    record {
      rising = k.rising;
      ready = subst (ArePlaces ns) (sym (left (goal.at.invariant_of-self-2 c).After-remove)) (places-without i.last ns xs i.waits k.rising k.ready (place_of ns c.args.p));
      waiting = omega (arith, k.waiting, c.hold.ensures.size, placed at, place-within c.args.p ns);
      places = k.places;
      marks = omega (arith, k.marks, c.remove.ensures.room);
    }

pub returns-clause-waits : goal.returns-clause-waits
returns-clause-waits c =
    let i = c.self.inside in
    let k = c.self.invariant in
    let ns = i.numbers.items in
    let xs = i.ready.ready in
    let at = (goal.at.returns-clause-waits c).After-place_of-place in
    let held = subst (λ m. WaitsNow m c.args.want (waiting_at i.waits) (waiting_at c.hold.new.waits)) (placed at) c.in_ok-hold.ensures.waits in
    rw (← c.self.view_is) (waits-mapped i.last ns xs i.waits k.rising k.ready c.args.p c.args.want c.hold.new.waits (has at) held)

pub returns-clause-ready : goal.returns-clause-ready
returns-clause-ready c =
    let i = c.self.inside in
    let k = c.self.invariant in
    let ns = i.numbers.items in
    let xs = i.ready.ready in
    rw (← c.self.view_is) (λ q.
    ap (λ ys. is_number_among q (map (number_at ns) ys)) (left (goal.at.returns-clause-ready c).After-remove)
    ∙ ready-no-more i.last ns xs i.waits k.rising k.ready c.args.p q)
