use Rattle.std.proofs.Common.{◌-◌, ◌<◌, length, arith, refl, Ok, Err, ap, ◌∙◌, subst}
use Rattle.std.proofs.Math.Logic.{∥∥₁_map}
use Rattle.hep_core.specs.Offers.{offered}
use Rattle.hep_workers.specs.Turns.{entry_of}
use Rattle.hep_workers.proofs.EntrySpans.{noted, noted-inside, own-inside, still, still-inside}
use Rattle.hep_workers.proofs.SharedCalls.{AreTold, one-turned, told-turned, told-unturned, turned}
use Rattle.hep_workers.specs.LockedCalls.{IsTurned}
use Rattle.hep_workers.proofs.shared_core.SharedCore.turn.Goals as goal

-- room is refused
pub invariant_of-self : goal.invariant_of-self
invariant_of-self g c =
    let was = c.args.self.now in
    let seat = c.args.seat.now in
    let lt : seat.number - 1 < length was.lists.items = omega (arith, seat.some, seat.few, was.many, was.lists.ok.0) in
    let h = was.core.core.history in
    record {
      program = was.program;
      cells = was.cells;
      limit = was.limit;
      shared = was.shared;
      many = was.many;
      logged =
          still g.K.RunBrand.workers h h was.lists.items (seat.number - 1) c.index_mut-spans.result.now lt c.index_mut-spans.ensures.value was.inside c.make_room.new.spans refl c.make_room.ensures.items was.logged;
      inside =
          still-inside g.K.RunBrand.workers h h was.lists.items (seat.number - 1) c.index_mut-spans.result.now lt c.index_mut-spans.ensures.value was.inside c.make_room.new.spans refl c.make_room.ensures.items;
    }

-- a turn is made
pub invariant_of-self-in-Ok : goal.invariant_of-self-in-Ok
invariant_of-self-in-Ok g c =
    let was = c.args.self.now in
    let seat = c.args.seat.now in
    let s = offered was.core.core.program c.args.offer.now in
    let new = c.offer_turn.new.core in
    let told : AreTold was.core new s c.offer_turn.result = (c.offer_turn.ensures.made, c.offer_turn.ensures.unmade) in
    let one = one-turned was.core new s c.offer_turn.result told in
    let lt : seat.number - 1 < length was.lists.items = omega (arith, seat.some, seat.few, was.many, was.lists.ok.0) in
    let count = c.len-index.ensures.count ∙ ap length c.history.ensures in
    record {
      program = one.program ∙ was.program;
      cells = one.cells ∙ was.cells;
      limit = one.limit ∙ was.limit;
      shared = ∥∥₁_map was.shared (turned g.K.RunBrand.opening was.core new s c.offer_turn.result c.headline.ensures.placed told);
      many = was.many;
      logged =
          noted g.K.RunBrand.workers was.core.core.history new.core.history was.lists.items (seat.number - 1) c.index_mut-spans.result.now lt c.index_mut-spans.ensures.value was.inside c.add_entry.new.spans (entry_of c.in-Ok._receipt) c.make_room.new.spans c.len-index.result
          c.in-Ok.ensures.named.2 count c.make_room.ensures.items c.add_entry.ensures was.logged;
      inside =
          noted-inside g.K.RunBrand.workers was.core.core.history new.core.history was.lists.items (seat.number - 1) c.index_mut-spans.result.now lt c.index_mut-spans.ensures.value was.inside c.add_entry.new.spans (entry_of c.in-Ok._receipt) c.make_room.new.spans c.len-index.result
          c.in-Ok.ensures.named.2 count c.make_room.ensures.items c.add_entry.ensures;
    }

-- none is made
pub invariant_of-self-in-Err : goal.invariant_of-self-in-Err
invariant_of-self-in-Err g c =
    let was = c.args.self.now in
    let seat = c.args.seat.now in
    let s = offered was.core.core.program c.args.offer.now in
    let new = c.offer_turn.new.core in
    let told : AreTold was.core new s c.offer_turn.result = (c.offer_turn.ensures.made, c.offer_turn.ensures.unmade) in
    let one = one-turned was.core new s c.offer_turn.result told in
    let lt : seat.number - 1 < length was.lists.items = omega (arith, seat.some, seat.few, was.many, was.lists.ok.0) in
    record {
      program = one.program ∙ was.program;
      cells = one.cells ∙ was.cells;
      limit = one.limit ∙ was.limit;
      shared = ∥∥₁_map was.shared (turned g.K.RunBrand.opening was.core new s c.offer_turn.result c.headline-in-Err.ensures.placed told);
      many = was.many;
      logged =
          still g.K.RunBrand.workers was.core.core.history new.core.history was.lists.items (seat.number - 1) c.index_mut-spans.result.now lt c.index_mut-spans.ensures.value was.inside c.make_room.new.spans c.in-Err.ensures.kept c.make_room.ensures.items was.logged;
      inside =
          still-inside g.K.RunBrand.workers was.core.core.history new.core.history was.lists.items (seat.number - 1) c.index_mut-spans.result.now lt c.index_mut-spans.ensures.value was.inside c.make_room.new.spans c.in-Err.ensures.kept c.make_room.ensures.items;
    }

-- the entry is put behind spans of entries that are there
pub add_entry-requires-clause-inside : goal.add_entry-requires-clause-inside
add_entry-requires-clause-inside g c =
    let was = c.args.self.now in
    let seat = c.args.seat.now in
    let lt : seat.number - 1 < length was.lists.items = omega (arith, seat.some, seat.few, was.many, was.lists.ok.0) in
    let h = was.core.core.history in
    own-inside g.K.RunBrand.workers h h was.lists.items (seat.number - 1) c.index_mut-spans.result.now lt c.index_mut-spans.ensures.value was.inside c.make_room.new.spans c.len-index.result
    c.make_room.ensures.items (c.len-index.ensures.count ∙ ap length c.history.ensures)

-- what is told of it
pub returns-in-Ok : goal.returns-in-Ok
returns-in-Ok g c =
    let was = c.args.self.now in
    let s = offered was.core.core.program c.args.offer.now in
    subst (λ u. IsTurned was.core (offered u c.args.offer.now) (Ok tt) c.offer_turn.new.core) was.program (told-turned was.core c.offer_turn.new.core s c.in-Ok._receipt c.in-Ok.ensures.made)

pub returns-in-Err : goal.returns-in-Err
returns-in-Err g c =
    let was = c.args.self.now in
    let s = offered was.core.core.program c.args.offer.now in
    subst (λ u. IsTurned was.core (offered u c.args.offer.now) (Err c.in-Err.fault) c.offer_turn.new.core) was.program (told-unturned was.core c.offer_turn.new.core s c.in-Err.fault c.in-Err.ensures.unmade)
