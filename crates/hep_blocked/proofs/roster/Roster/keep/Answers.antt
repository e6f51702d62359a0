use Rattle.std.proofs.Common.{◌≡◌, ◌<◌, ◌+◌, ◌&&◌, ◌||◌, ℕ, suc, [], ◌∷◌, ◌++◌, nat_eq, not, length, length-append, map, sym, ap, ◌∙◌, subst, arith, if◌then◌else◌}
use Rattle.std.proofs.lemmas.Result.{on_ok_weaker}
use Rattle.hep_machine.specs.Words.{is_number_among}
use Rattle.hep_blocked.specs.Numbers.{AreRising}
use Rattle.hep_blocked.specs.Rosters.{RosterValue, number_at, waiting_in, want_of}
use Rattle.hep_blocked.specs.Waiting.{waiting_at}
use Rattle.hep_blocked.proofs.Ranks.{ArePlaces, past-at, rise-more}
use Rattle.hep_blocked.proofs.Rosters.{on-ok, places-marked, ready-marked, waiting-marked, waiting-not}
use Rattle.hep_blocked.proofs.roster.Roster.keep.Goals.{After-len, After-note}
use Rattle.hep_blocked.proofs.roster.Roster.keep.Goals as goal

module _ (c : After-len) where
  later : c.self.inside.last < c.args.number
  later = omega (arith, c.requires.later, ap (λ (r : RosterValue). r.last) c.self.view_is)

  further : AreRising 1 c.args.number (c.self.inside.numbers.items ++ c.args.number ∷ [])
  further = rise-more 1 c.self.inside.last c.args.number c.self.inside.numbers.items c.self.invariant.rising (omega (arith, later)) later

  place : c.len.result + 1 ≡ suc (length c.self.inside.numbers.items)
  place = omega (arith, c.len.ensures, c.self.inside.numbers.ok.0)

module _ (c : After-note) where
  added : c.push.new.self.items ≡ c.self.inside.numbers.items ++ c.args.number ∷ []
  added = c.in_ok-push.ensures.items

  long : length c.push.new.self.items ≡ suc (length c.self.inside.numbers.items)
  long = ap length added ∙ (length-append c.self.inside.numbers.items (c.args.number ∷ []) ∙ omega arith)

  marked : c.len.result + 1 ≡ suc (length c.self.inside.numbers.items) → (k : ℕ)
      → is_number_among k c.mark.new.ready.ready ≡ ((nat_eq k (suc (length c.self.inside.numbers.items)) && c.args.is_ready) || is_number_among k c.self.inside.ready.ready)
  marked at k = c.mark.ensures.ready k ∙ (λ j. (nat_eq k (at j) && c.args.is_ready) || is_number_among k (c.reserve.ensures.ready j))

pub returns-then-not-is_ready-clause-waiting : goal.returns-then-not-is_ready-clause-waiting
returns-then-not-is_ready-clause-waiting c =
    let at = (goal.at.returns-then-not-is_ready-clause-waiting c).After-len in
    let i = c.self.inside in
    let k = c.self.invariant in
    rw (← c.self.view_is) (waiting-not c.args.number i.last i.numbers.items i.ready.ready i.waits k.rising (later at) (further at) k.ready k.waiting c.args.want (c.is_none.ensures ∙ ap not c.if-is_none.true))

pub note-requires-clause-idle : goal.note-requires-clause-idle
note-requires-clause-idle c =
    let i = c.self.inside in
    past-at i.waits (c.len.result + 1) (omega (arith, c.self.invariant.waiting, c.len.ensures, i.numbers.ok.0))

pub invariant_of-self-2 : goal.invariant_of-self-2
invariant_of-self-2 c =
    let at = (goal.at.invariant_of-self-2 c).After-note in
    let from = (goal.at.invariant_of-self-2 c).After-len in
    let i = c.self.inside in
    let k = c.self.invariant in
    let ns = i.numbers.items in
    let xs = i.ready.ready in
    let p = c.args.number in
    record {
      rising = subst (AreRising 1 p) (sym (added at)) (further from);
      ready = subst (λ ms. ArePlaces ms c.mark.new.ready.ready) (sym (added at)) (places-marked p i.last ns xs i.waits k.rising (later from) (further from) k.ready k.waiting c.args.is_ready c.mark.new.ready.ready (marked at (place from)));
      waiting = omega (arith, k.waiting, long at, place from, c.note.ensures.size);
      places = omega (arith, long at, c.push.new.self.ok.0, c.push.new.self.ok.1);
      marks = omega (arith, long at, place from, c.mark.ensures.room, c.in_ok-reserve.ensures.room);
    }

pub returns-clause-ready : goal.returns-clause-ready
returns-clause-ready c =
    let at = (goal.at.returns-clause-ready c).After-note in
    let from = (goal.at.returns-clause-ready c).After-len in
    let i = c.self.inside in
    let k = c.self.invariant in
    let ns = i.numbers.items in
    let xs = i.ready.ready in
    rw (← c.self.view_is) (on-ok c.note.result (λ q.
    ap (λ ms. is_number_among q (map (number_at ms) c.mark.new.ready.ready)) (added at)
    ∙ ready-marked c.args.number i.last ns xs i.waits k.rising (later from) (further from) k.ready k.waiting c.args.is_ready c.mark.new.ready.ready (marked at (place from)) q))

pub returns-clause-waiting : goal.returns-clause-waiting
returns-clause-waiting c =
    let at = (goal.at.returns-clause-waiting c).After-note in
    let from = (goal.at.returns-clause-waiting c).After-len in
    let i = c.self.inside in
    let k = c.self.invariant in
    let ns = i.numbers.items in
    let xs = i.ready.ready in
    rw (← c.self.view_is) (on_ok_weaker c.note.result (λ told q.
    ap (λ ms. want_of (waiting_in ms c.note.new.waits) q) (added at)
    ∙ waiting-marked c.args.number i.last ns xs i.waits k.rising (later from) (further from) k.ready k.waiting c.args.want c.note.new.waits
    (λ m. told m ∙ ap (λ n. if nat_eq n m then c.args.want else waiting_at i.waits m) (place from)) q) c.note.ensures.waiting)
