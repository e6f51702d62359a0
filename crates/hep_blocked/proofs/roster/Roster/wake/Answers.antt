use Rattle.std.proofs.Common.{length, ap, arith}
use Rattle.std.proofs.lemmas.List.{length-map}
use Rattle.hep_blocked.specs.Waiting.{awake}
use Rattle.hep_blocked.proofs.Rosters.{awake-all, places-woken, ready-woken}
use Rattle.hep_blocked.proofs.roster.Roster.wake.Goals as goal

pub invariant_of-self : goal.invariant_of-self
invariant_of-self c =
    let i = c.self.inside in
    let k = c.self.invariant in
    let ns = i.numbers.items in
    let xs = i.ready.ready in
    record {
      rising = k.rising;
      ready = places-woken i.last ns xs i.waits k.rising k.ready c.args.want c.wake.new.ready.ready k.waiting c.wake.ensures.among;
      waiting = omega (arith, k.waiting, ap length c.wake.ensures.woken, length-map i.waits (awake c.args.want));
      places = k.places;
      marks = omega (arith, k.marks, c.wake.ensures.room);
    }

pub returns-clause-waiting : goal.returns-clause-waiting
returns-clause-waiting c q =
    let i = c.self.inside in
    let k = c.self.invariant in
    let ns = i.numbers.items in
    let xs = i.ready.ready in
    rw (← c.self.view_is) (awake-all i.last ns xs i.waits k.rising k.ready c.args.want c.wake.new.self c.wake.ensures.waiting q)

pub returns-clause-ready : goal.returns-clause-ready
returns-clause-ready c q =
    let i = c.self.inside in
    let k = c.self.invariant in
    let ns = i.numbers.items in
    let xs = i.ready.ready in
    let places = places-woken i.last ns xs i.waits k.rising k.ready c.args.want c.wake.new.ready.ready k.waiting c.wake.ensures.among in
    rw (← c.self.view_is) (ready-woken i.last ns xs i.waits k.rising k.ready c.args.want c.wake.new.ready.ready places c.wake.ensures.among q)
