use Rattle.std.proofs.Common.{◌≡◌, ◌-◌, ◌<◌, length, arith, refl, sym, ap, subst, ◌∙◌}
use Rattle.std.proofs.Math.Logic.{∥∥₁_map}
use Rattle.hep_core.specs.ProcessPlaces.{PlacedCore}
use Rattle.hep_machine.specs.declared.event.Entry.{Entry}
use Rattle.hep_private.specs.Segments.{most_records}
use Rattle.hep_workers.proofs.SharedCores.{by-turns-at-once}
use Rattle.hep_workers.specs.SharedCores.{IsSharedFrom}
use Rattle.hep_workers.proofs.EntrySpans.{own-inside, still, still-inside}
use Rattle.hep_workers.proofs.SeveralEntries.{many-inside, many-logged}
use Rattle.hep_workers.proofs.SharedCalls.{turned-several}
use Rattle.hep_workers.proofs.shared_core.SharedCore.turns_at_once.Goals as goal

pub turns_at_once-requires-clause-program : goal.turns_at_once-requires-clause-program
turns_at_once-requires-clause-program g c = c.args.known.now.is ∙ sym c.args.self.now.program

-- room is refused
pub invariant_of-self : goal.invariant_of-self
invariant_of-self g c =
    let was = c.args.self.now in
    let seat = c.args.seat.now in
    let lt : seat.number - 1 < length was.lists.items = omega (arith, seat.some, seat.few, was.many, was.lists.ok.0) in
    let h = was.core.core.history in
    record {
      program = was.program;
      cells = was.cells;
      limit = was.limit;
      shared = was.shared;
      many = was.many;
      logged =
          still g.K.RunBrand.workers h h was.lists.items (seat.number - 1) c.index_mut-spans.result.now lt c.index_mut-spans.ensures.value was.inside c.make_room.new.spans refl c.make_room.ensures.items was.logged;
      inside =
          still-inside g.K.RunBrand.workers h h was.lists.items (seat.number - 1) c.index_mut-spans.result.now lt c.index_mut-spans.ensures.value was.inside c.make_room.new.spans refl c.make_room.ensures.items;
    }

-- turns are made
pub invariant_of-self-in-Some : goal.invariant_of-self-in-Some
invariant_of-self-in-Some g c =
    let was = c.args.self.now in
    let seat = c.args.seat.now in
    let new = c.turns_at_once.new.core in
    let p = c.in-Some._process in
    let n = c.args.turns in
    let made = c.in-Some.ensures.made in
    let e : Entry = record { process = p; steps = most_records } in
    let one = by-turns-at-once p n was.core new made in
    let lt : seat.number - 1 < length was.lists.items = omega (arith, seat.some, seat.few, was.many, was.lists.ok.0) in
    let count = c.len-index.ensures.count ∙ ap length c.history.ensures in
    record {
      program = one.program ∙ was.program;
      cells = one.cells ∙ was.cells;
      limit = one.limit ∙ was.limit;
      shared = ∥∥₁_map was.shared (λ before. turned-several g.K.RunBrand.opening p n was.core new before made);
      many = was.many;
      logged =
          many-logged g.K.RunBrand.workers was.core.core.history new.core.history was.lists.items (seat.number - 1) c.index_mut-spans.result.now lt c.index_mut-spans.ensures.value was.inside was.logged c.add_entries.new.spans e n c.make_room.new.spans c.len-index.result
          c.in-Some.ensures.entries count c.make_room.ensures.items c.add_entries.ensures;
      inside =
          many-inside g.K.RunBrand.workers was.core.core.history new.core.history was.lists.items (seat.number - 1) c.index_mut-spans.result.now lt c.index_mut-spans.ensures.value was.inside was.logged c.add_entries.new.spans e n c.make_room.new.spans c.len-index.result
          c.in-Some.ensures.entries count c.make_room.ensures.items c.add_entries.ensures;
    }

-- none is made
pub invariant_of-self-in-None : goal.invariant_of-self-in-None
invariant_of-self-in-None g c =
    let was = c.args.self.now in
    let seat = c.args.seat.now in
    let new = c.turns_at_once.new.core in
    let same : new ≡ was.core = c.in-None.ensures.none in
    let lt : seat.number - 1 < length was.lists.items = omega (arith, seat.some, seat.few, was.many, was.lists.ok.0) in
    record {
      program = ap (λ (v : PlacedCore). v.core.program) same ∙ was.program;
      cells = ap (λ (v : PlacedCore). v.core.cells) same ∙ was.cells;
      limit = ap (λ (v : PlacedCore). v.core.limit) same ∙ was.limit;
      shared = ∥∥₁_map was.shared (λ before. subst (IsSharedFrom g.K.RunBrand.opening) (sym same) before);
      many = was.many;
      logged =
          still g.K.RunBrand.workers was.core.core.history new.core.history was.lists.items (seat.number - 1) c.index_mut-spans.result.now lt c.index_mut-spans.ensures.value was.inside c.make_room.new.spans (ap (λ (v : PlacedCore). v.core.history) same) c.make_room.ensures.items was.logged;
      inside =
          still-inside g.K.RunBrand.workers was.core.core.history new.core.history was.lists.items (seat.number - 1) c.index_mut-spans.result.now lt c.index_mut-spans.ensures.value was.inside c.make_room.new.spans (ap (λ (v : PlacedCore). v.core.history) same) c.make_room.ensures.items;
    }

-- the entries are put behind spans of entries that are there
pub add_entries-requires-clause-inside : goal.add_entries-requires-clause-inside
add_entries-requires-clause-inside g c =
    let was = c.args.self.now in
    let seat = c.args.seat.now in
    let lt : seat.number - 1 < length was.lists.items = omega (arith, seat.some, seat.few, was.many, was.lists.ok.0) in
    let h = was.core.core.history in
    own-inside g.K.RunBrand.workers h h was.lists.items (seat.number - 1) c.index_mut-spans.result.now lt c.index_mut-spans.ensures.value was.inside c.make_room.new.spans c.len-index.result
    c.make_room.ensures.items (c.len-index.ensures.count ∙ ap length c.history.ensures)
