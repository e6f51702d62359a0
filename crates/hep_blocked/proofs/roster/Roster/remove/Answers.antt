use Rattle.std.proofs.Common.{◌≡◌, map, sym, ap, ◌∙◌, subst, arith}
use Rattle.hep_machine.specs.Words.{is_number_among, without}
use Rattle.hep_blocked.specs.Rosters.{number_at, place_of}
use Rattle.hep_blocked.proofs.Ranks.{ArePlaces}
use Rattle.hep_blocked.proofs.Rosters.{places-without, ready-no-more}
use Rattle.hep_blocked.proofs.roster.Roster.remove.Goals.{After-remove}
use Rattle.hep_blocked.proofs.roster.Roster.remove.Goals as goal

left : (c : After-remove) → c.remove.new.self.ready ≡ without (place_of c.self.inside.numbers.items c.args.p) c.self.inside.ready.ready
left c =
    c.remove.ensures.ready
    ∙ ap (λ m. without m c.self.inside.ready.ready) (c.place_of.ensures.place ∙ ap (λ ns. place_of ns c.args.p) c.deref.ensures.value)

pub invariant_of-self : goal.invariant_of-self
invariant_of-self c =
    let i = c.self.inside in
    let k = c.self.invariant in
    let ns = i.numbers.items in
    let xs = i.ready.ready in
    record {
      rising = k.rising;
      ready = subst (ArePlaces ns) (sym (left (goal.at.invariant_of-self c).After-remove)) (places-without i.last ns xs i.waits k.rising k.ready (place_of ns c.args.p));
      waiting = k.waiting;
      places = k.places;
      marks = omega (arith, k.marks, c.remove.ensures.room);
    }

pub returns-clause-ready : goal.returns-clause-ready
returns-clause-ready c q =
    let i = c.self.inside in
    let k = c.self.invariant in
    let ns = i.numbers.items in
    let xs = i.ready.ready in
    rw (← c.self.view_is) (
    ap (λ ys. is_number_among q (map (number_at ns) ys)) (left (goal.at.returns-clause-ready c).After-remove)
    ∙ ready-no-more i.last ns xs i.waits k.rising k.ready c.args.p q)
