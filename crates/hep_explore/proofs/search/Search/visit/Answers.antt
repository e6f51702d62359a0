use Rattle.std.proofs.Common.{◌≡◌, ◌<◌, arith, length, refl}
use Rattle.std.proofs.lemmas.Bool.{not-false, not-true}
use Rattle.hep_explore.specs.Searching.{Known, known_of}
use Rattle.hep_explore.proofs.SearchedStates.{last_visit, new_visit, same_known, seen_visit}
use Rattle.hep_explore.proofs.search.Search.visit.Goals as goal

pub key_of-requires : goal.key_of-requires
key_of-requires c = (c.args.self.now.cells, c.requires.visit.choices, c.requires.visit.after)

pub returns-then-len-self : goal.returns-then-len-self
returns-then-len-self c =
    let s = known_of c.args.self.now in
    let v =
    last_visit c.args.image.now s c.args.machine c.in_ok-key.key.words.items c.contains.result c.requires.search c.in_ok-key.ensures (
    omega (arith, c.if-len-self.true)) c.contains.ensures.seen
    in
    record { search = v.search; goes_on = v.goes_on; same = refl; found = v.found }

pub returns-then-not-found : goal.returns-then-not-found
returns-then-not-found c =
    let s = known_of c.args.self.now in
    let new : Known = record s { states = c.insert.new.self } in
    let seen = c.in_ok-found.ensures.seen (not-true c.in_ok-found.found.1 c.if-not-found.true) in
    let same : new ≡ s = same_known new s refl seen refl refl refl refl refl refl refl in
    let v =
    seen_visit c.args.image.now s new c.args.machine c.in_ok-found.found.0 c.in_ok-key.key.words.items c.requires.search c.in_ok-key.ensures
    c.in_ok-found.ensures.there same
    in
    record { search = v.search; goes_on = v.goes_on; same = refl; found = v.found }

pub returns : goal.returns
returns c =
    let s = known_of c.args.self.now in
    let m = c.args.machine in
    let new : Known = record s {
      states = c.insert.new.self;
      origins = c.push.new.self.items;
      queue = c.push_back.new.self.items;
    } in
    let is_new = not-false c.in_ok-found.found.1 c.if-not-found.false in
    let room : length s.states < s.most = omega (arith, c.if-len-self.false) in
    let states = (c.in_ok-found.ensures.added is_new).1 in
    let v =
    new_visit c.args.image.now s new c.requires.search m c.args.origin c.requires.visit c.in_ok-key.key.words.items c.in_ok-key.ensures (
    c.in_ok-found.ensures.unseen is_new) room (
    same_known new _ refl states c.in_ok-push.ensures.items c.in_ok-push_back.ensures.items refl refl refl refl refl)
    in
    record { search = v.search; goes_on = v.goes_on; same = refl; found = v.found }
