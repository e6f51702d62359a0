use Rattle.std.proofs.Common.{◌≡◌, ◌-◌, ◌<◌, length, arith, refl, sym, ap, subst, ◌∙◌}
use Rattle.std.proofs.Math.Logic.{∥∥₁_map}
use Rattle.hep_core.specs.ProcessPlaces.{PlacedCore}
use Rattle.hep_workers.specs.Turns.{entry_of}
use Rattle.hep_workers.proofs.SharedCores.{by-turn-at-once}
use Rattle.hep_workers.specs.SharedCores.{IsSharedFrom}
use Rattle.hep_workers.proofs.EntrySpans.{noted, noted-inside, own-inside, still, still-inside}
use Rattle.hep_workers.proofs.SharedCalls.{turned-at-once}
use Rattle.hep_workers.proofs.shared_core.SharedCore.turn_at_once.Goals as goal

pub turn_at_once-requires-clause-program : goal.turn_at_once-requires-clause-program
turn_at_once-requires-clause-program g c = c.args.known.now.is ∙ sym c.args.self.now.program

-- room is refused
pub invariant_of-self : goal.invariant_of-self
invariant_of-self g c =
    let was = c.args.self.now in
    let seat = c.args.seat.now in
    let lt : seat.number - 1 < length was.lists.items = omega (arith, seat.some, seat.few, was.many, was.lists.ok.0) in
    let h = was.core.core.history in
    record {
      program = was.program;
      cells = was.cells;
      limit = was.limit;
      shared = was.shared;
      many = was.many;
      logged =
          still g.K.RunBrand.workers h h was.lists.items (seat.number - 1) c.index_mut-spans.result.now lt c.index_mut-spans.ensures.value was.inside c.make_room.new.spans refl c.make_room.ensures.items was.logged;
      inside =
          still-inside g.K.RunBrand.workers h h was.lists.items (seat.number - 1) c.index_mut-spans.result.now lt c.index_mut-spans.ensures.value was.inside c.make_room.new.spans refl c.make_room.ensures.items;
    }

-- a turn is made
pub invariant_of-self-in-Some : goal.invariant_of-self-in-Some
invariant_of-self-in-Some g c =
    let was = c.args.self.now in
    let seat = c.args.seat.now in
    let new = c.turn_at_once.new.core in
    let p = c.in-Some.receipt.process in
    let n = c.in-Some.receipt.steps in
    let made = c.in-Some.ensures.made in
    let one = by-turn-at-once was.core new p n made in
    let lt : seat.number - 1 < length was.lists.items = omega (arith, seat.some, seat.few, was.many, was.lists.ok.0) in
    let count = c.len-index.ensures.count ∙ ap length c.history.ensures in
    record {
      program = one.program ∙ was.program;
      cells = one.cells ∙ was.cells;
      limit = one.limit ∙ was.limit;
      shared = ∥∥₁_map was.shared (λ before. turned-at-once g.K.RunBrand.opening was.core new p n before made);
      many = was.many;
      logged =
          noted g.K.RunBrand.workers was.core.core.history new.core.history was.lists.items (seat.number - 1) c.index_mut-spans.result.now lt c.index_mut-spans.ensures.value was.inside c.add_entry.new.spans (entry_of c.in-Some.receipt) c.make_room.new.spans c.len-index.result
          c.in-Some.ensures.named.2 count c.make_room.ensures.items c.add_entry.ensures was.logged;
      inside =
          noted-inside g.K.RunBrand.workers was.core.core.history new.core.history was.lists.items (seat.number - 1) c.index_mut-spans.result.now lt c.index_mut-spans.ensures.value was.inside c.add_entry.new.spans (entry_of c.in-Some.receipt) c.make_room.new.spans c.len-index.result
          c.in-Some.ensures.named.2 count c.make_room.ensures.items c.add_entry.ensures;
    }

-- none is made
pub invariant_of-self-in-None : goal.invariant_of-self-in-None
invariant_of-self-in-None g c =
    let was = c.args.self.now in
    let seat = c.args.seat.now in
    let new = c.turn_at_once.new.core in
    let same : new ≡ was.core = c.in-None.ensures.none in
    let lt : seat.number - 1 < length was.lists.items = omega (arith, seat.some, seat.few, was.many, was.lists.ok.0) in
    record {
      program = ap (λ (v : PlacedCore). v.core.program) same ∙ was.program;
      cells = ap (λ (v : PlacedCore). v.core.cells) same ∙ was.cells;
      limit = ap (λ (v : PlacedCore). v.core.limit) same ∙ was.limit;
      shared = ∥∥₁_map was.shared (λ before. subst (IsSharedFrom g.K.RunBrand.opening) (sym same) before);
      many = was.many;
      logged =
          still g.K.RunBrand.workers was.core.core.history new.core.history was.lists.items (seat.number - 1) c.index_mut-spans.result.now lt c.index_mut-spans.ensures.value was.inside c.make_room.new.spans (ap (λ (v : PlacedCore). v.core.history) same) c.make_room.ensures.items was.logged;
      inside =
          still-inside g.K.RunBrand.workers was.core.core.history new.core.history was.lists.items (seat.number - 1) c.index_mut-spans.result.now lt c.index_mut-spans.ensures.value was.inside c.make_room.new.spans (ap (λ (v : PlacedCore). v.core.history) same) c.make_room.ensures.items;
    }

-- the entry is put behind spans of entries that are there
pub add_entry-requires-clause-inside : goal.add_entry-requires-clause-inside
add_entry-requires-clause-inside g c =
    let was = c.args.self.now in
    let seat = c.args.seat.now in
    let lt : seat.number - 1 < length was.lists.items = omega (arith, seat.some, seat.few, was.many, was.lists.ok.0) in
    let h = was.core.core.history in
    own-inside g.K.RunBrand.workers h h was.lists.items (seat.number - 1) c.index_mut-spans.result.now lt c.index_mut-spans.ensures.value was.inside c.make_room.new.spans c.len-index.result
    c.make_room.ensures.items (c.len-index.ensures.count ∙ ap length c.history.ensures)
