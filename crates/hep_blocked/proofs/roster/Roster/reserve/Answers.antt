use Rattle.std.proofs.Common.{ap, ◌∙◌, arith, subst, sym}
use Rattle.hep_machine.specs.Words.{is_number_among}
use Rattle.hep_blocked.specs.Rosters.{KeepsRoll, RosterValue, place_of, want_of}
use Rattle.hep_blocked.specs.Waiting.{waiting_at}
use Rattle.hep_blocked.proofs.Ranks.{among-mapped, want-mapped}
use Rattle.hep_blocked.proofs.roster.Roster.reserve.Goals as goal

pub returns-clause-kept : goal.returns-clause-kept
returns-clause-kept c =
    let i = c.self.inside in
    let k = c.self.invariant in
    let ns = i.numbers.items in
    let seen = c.self.view_is in
    let told = c.in_ok-roster.ensures in
    let room = c.in_ok-make_room.ensures in
    subst (KeepsRoll c.args.self.now) (sym c.drop.view_is) (record {
      grows = omega (arith, room.room, c.if-number-self.false, c.if-number-self-2.false, ap (λ (r : RosterValue). r.room) seen);
      ready = λ q.
          ap (is_number_among q) c.make_room.ensures.ready
          ∙ (told.ready q
          ∙ (ap (λ ms. is_number_among (place_of ms q) i.ready.ready) c.deref.ensures.value
          ∙ (sym (among-mapped q i.last ns i.ready.ready k.rising k.ready) ∙ ap (λ (r : RosterValue). is_number_among q r.ready) seen)));
      waiting = λ q.
          ap (λ ws. want_of ws q) c.make_room.ensures.waiting
          ∙ (told.waiting q
          ∙ (ap (λ ms. waiting_at i.waits (place_of ms q)) c.deref.ensures.value
          ∙ (sym (want-mapped q 1 i.last ns i.waits k.rising) ∙ ap (λ (r : RosterValue). want_of r.waiting q) seen)));
      last = room.last ∙ ap (λ (r : RosterValue). r.last) seen;
    })
