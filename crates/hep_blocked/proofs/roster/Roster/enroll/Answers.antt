use Rattle.std.proofs.Common.{◌≡◌, ◌<◌, suc, [], ◌∷◌, ◌++◌, length, length-append, map, sym, ap, ◌∙◌, subst, arith}
use Rattle.hep_machine.specs.Words.{is_number_among}
use Rattle.hep_blocked.specs.Numbers.{AreRising, with_number}
use Rattle.hep_blocked.specs.Rosters.{RosterValue, number_at, waiting_in, want_of}
use Rattle.hep_blocked.proofs.Ranks.{ArePlaces, rise-more}
use Rattle.hep_blocked.proofs.Rosters.{places-more, ready-more, waiting-more}
use Rattle.hep_blocked.proofs.roster.Roster.enroll.Goals.{After-add}
use Rattle.hep_blocked.proofs.roster.Roster.enroll.Goals as goal

module _ (c : After-add) where
  later : c.self.inside.last < c.args.p
  later = omega (arith, c.requires.later, ap (λ (r : RosterValue). r.last) c.self.view_is)

  long : length c.append.new.numbers.items ≡ suc (length c.self.inside.numbers.items)
  long = ap length c.append.ensures.added ∙ (length-append c.self.inside.numbers.items (c.args.p ∷ []) ∙ omega arith)

  marked : c.add.new.self.ready ≡ with_number (suc (length c.self.inside.numbers.items)) c.self.inside.ready.ready
  marked =
      let place : c.len.result ≡ suc (length c.self.inside.numbers.items) = omega (arith, c.len.ensures, c.append.new.numbers.ok.0, long) in
      c.add.ensures.ready ∙ ap (λ n. with_number n c.self.inside.ready.ready) place

  further : AreRising 1 c.args.p (c.self.inside.numbers.items ++ c.args.p ∷ [])
  further = rise-more 1 c.self.inside.last c.args.p c.self.inside.numbers.items c.self.invariant.rising (omega (arith, later)) later

pub invariant_of-self : goal.invariant_of-self
invariant_of-self c =
    let at = (goal.at.invariant_of-self c).After-add in
    let i = c.self.inside in
    let k = c.self.invariant in
    let ns = i.numbers.items in
    let xs = i.ready.ready in
    let p = c.args.p in
    let added = c.append.ensures.added in
    let room = ap (λ (r : RosterValue). r.room) c.self.view_is in
    let places : ArePlaces (ns ++ p ∷ []) (with_number (suc (length ns)) xs) = places-more p i.last ns xs i.waits k.rising (later at) (further at) k.ready k.waiting in
    record {
      rising = subst (AreRising 1 p) (sym added) (further at);
      ready = subst (λ ms. ArePlaces ms c.add.new.self.ready) (sym added) (subst (ArePlaces (ns ++ p ∷ [])) (sym (marked at)) places);
      waiting = omega (arith, k.waiting, long at);
      places = omega (arith, k.places, long at, c.append.ensures.capacity, room, c.requires.room, later at);
      marks = omega (arith, k.marks, long at, c.add.ensures.room, room, c.requires.room, later at);
    }

pub returns-clause-ready : goal.returns-clause-ready
returns-clause-ready c q =
    let at = (goal.at.returns-clause-ready c).After-add in
    let i = c.self.inside in
    let k = c.self.invariant in
    let ns = i.numbers.items in
    let xs = i.ready.ready in
    rw (← c.self.view_is) (
    (λ j. is_number_among q (map (number_at (c.append.ensures.added j)) (marked at j)))
    ∙ ready-more c.args.p i.last ns xs i.waits k.rising (later at) (further at) k.ready k.waiting q)

pub returns-clause-waiting : goal.returns-clause-waiting
returns-clause-waiting c q =
    let at = (goal.at.returns-clause-waiting c).After-add in
    let i = c.self.inside in
    let k = c.self.invariant in
    let ns = i.numbers.items in
    let xs = i.ready.ready in
    rw (← c.self.view_is) (
    ap (λ ms. want_of (waiting_in ms i.waits) q) c.append.ensures.added
    ∙ waiting-more c.args.p i.last ns xs i.waits k.rising (later at) (further at) k.ready k.waiting q)
