use Rattle.std.proofs.Common.{◌≡◌, ◌+◌, ◌++◌, ◌∷◌, [], ◌∙◌, ap, arith, false, length, map, nat_le, refl, sym, true}
use Rattle.std.proofs.lemmas.List.{length_push}
use Rattle.std.specs.List.{list_any}
use Rattle.hep_core.proofs.GoodTickets.{as-many}
use Rattle.hep_machine.specs.Words.{run}
use Rattle.hep_races.proofs.ObservedTurns.{few-made, had-top, told, told-alone}
use Rattle.hep_races.proofs.race_observer.RaceObserverObserver.tell.Goals as goal
use Rattle.hep_races.specs.Observed.{access_in, event_in, unit_eq}
use Rattle.hep_races.specs.ObservedRuns.{is_alone}
use Rattle.hep_races.specs.RunNames.{unit_of_place}

pub pass-requires : goal.pass-requires
pass-requires c =
    let at = c.requires in
    let few = few-made c.args.image.now at.replay (at.made ++ c.args.p ∷ []) at.left c.args.machine.now at.under_way in
    omega (arith, few, at.known.counted, length_push at.made c.args.p)

pub returns-then-is_alone : goal.returns-then-is_alone
returns-then-is_alone c at =
    let program = c.args.image.now in
    let old = c.args.self.now in
    let p = c.args.p in
    let alone : is_alone (run program (at.made ++ p ∷ [])) ≡ true =
    ap (λ n. nat_le n 1) (sym (as-many program at.replay.cells (at.made ++ p ∷ []) c.args.machine.now at.under_way.after.after))
    ∙ sym c.is_alone.ensures ∙ c.if-is_alone.true in
    told-alone program (c.numbers_rise.ensures.processes program) at.replay at.made p old (
    record {
      alloc = old.alloc;
      variables = old.variables;
      names = old.names;
      bounds = old.bounds;
      watches = old.watches;
      accesses = old.accesses;
      sites = old.sites;
      detector = c.pass.new.self;
    }) at.seen at.known alone refl refl refl refl refl c.pass.ensures

pub returns : goal.returns
returns c at =
    let program = c.args.image.now in
    let old = c.args.self.now in
    let p = c.args.p in
    let top = had-top program p (run program at.made) at.stepped in
    let several : is_alone (run program (at.made ++ p ∷ [])) ≡ false =
    ap (λ n. nat_le n 1) (sym (as-many program at.replay.cells (at.made ++ p ∷ []) c.args.machine.now at.under_way.after.after))
    ∙ sym c.is_alone.ensures ∙ c.if-is_alone.false in
    let changed = c.deref-2.ensures.value ∙ c.in_ok-changes.ensures ∙ ap (map unit_of_place) c.deref.ensures.value in
    told program (c.numbers_rise.ensures.activations program) at.replay at.made p at.left c.args.machine.now at.under_way old (
    record {
      alloc = old.alloc;
      variables = old.variables;
      names = old.names;
      bounds = old.bounds;
      watches = old.watches;
      accesses = c.number_accesses.new.numbered;
      sites = c.number_accesses.new.sites;
      detector = c.observe.new.self;
    }) at.seen at.known c.in_ok-number_accesses.ensures.kept.0 c.in_ok-number_accesses.ensures.kept.1 refl refl refl top.0 c.end.new.self (
    event_in (
    record {
      process = c.end.new.self.process;
      makes = c.end.new.self.makes;
      needs = c.unit_needed.result;
      changes = c.deref-2.result;
      accesses = c.deref-3.result;
    })) (
    c.end.ensures program at.replay.cells at.made p top.0 top.1 at.stepped (at.noted top.0 top.1) at.under_way.after) refl (
    record {
      process = refl;
      makes = refl;
      needs = c.unit_needed.ensures;
      changes = λ i at. list_any (λ v. unit_eq v at) (changed i);
      numbered = c.number_accesses.new.numbered.items;
      accesses = ap (map access_in) c.deref-3.ensures.value;
      are = c.in_ok-number_accesses.ensures.numbered;
    }) (c.in_ok-observe.ensures (at.seen.alone + length at.seen.events) at.known.noted at.known.detected) several
