use Rattle.std.proofs.Common.{length, sym, ap, subst, arith}
use Rattle.hep_blocked.specs.Numbers.{AreRising}
use Rattle.hep_blocked.specs.Rosters.{RosterValue}
use Rattle.hep_blocked.proofs.Ranks.{ArePlaces, rise-further}
use Rattle.hep_blocked.proofs.roster.Roster.make_room.Goals as goal

pub invariant_of-self-2 : goal.invariant_of-self-2
invariant_of-self-2 c =
    let i = c.self.inside in
    let k = c.self.invariant in
    let ns = i.numbers.items in
    let xs = i.ready.ready in
    let same = c.reserve.ensures.items in
    let last = ap (λ (r : RosterValue). r.last) c.self.view_is in
    let rising = rise-further 1 i.last c.args.last ns k.rising (omega (arith, last, c.requires.enrolled)) in
    record {
      rising = subst (AreRising 1 c.args.last) (sym same) rising;
      ready = subst (λ ms. ArePlaces ms c.reserve-2.new.self.ready) (sym same) (subst (ArePlaces ns) (sym c.reserve-2.ensures.ready) k.ready);
      waiting = omega (arith, k.waiting, ap length same);
      places = omega (arith, c.in_ok-reserve.ensures.ok, c.reserve.new.self.ok.0);
      marks = omega (arith, c.in_ok-reserve-2.ensures.room, c.len-2.ensures, c.reserve.new.self.ok.0);
    }
