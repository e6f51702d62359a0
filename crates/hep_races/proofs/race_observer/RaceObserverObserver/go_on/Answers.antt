use Rattle.std.proofs.Common.{◌≡◌, List, ◌∙◌, ap, arith, false, nat_le, refl, subst, sym, true}
use Rattle.hep_advance.specs.RunsToBreakpoints.{PassesTurns}
use Rattle.hep_advance.specs.declared.breakpoints.Breakpoints.{Breakpoints}
use Rattle.hep_core.proofs.GoodTickets.{as-many}
use Rattle.hep_machine.specs.Words.{run}
use Rattle.hep_races.proofs.ObservedTurns.{few-row, gone-on, passed-on}
use Rattle.hep_races.specs.ObservedRuns.{is_alone}
use Rattle.hep_races.proofs.race_observer.RaceObserverObserver.go_on.Goals as goal

pub pass-requires : goal.pass-requires
pass-requires c =
    let at = c.requires.ahead in
    let few = few-row c.args.tabled.now.image.now at.replay at.made c.args.row at.left c.args.machine.now at.under_way in
    omega (arith, few, at.known.counted, c.pass_on-passed.ensures.few)

pub returns-then-not-is_alone-clause-seen : goal.returns-then-not-is_alone-clause-seen
returns-then-not-is_alone-clause-seen c at =
    let program = c.args.tabled.now.image.now in
    let old = c.args.self.now in
    let row = c.args.row in
    let gone = c.pass_on-passed.ensures in
    let several : is_alone (run program at.made) ≡ false =
    ap (λ n. nat_le n 1) (sym (as-many program at.replay.cells at.made c.args.machine.now at.under_way.after.after))
    ∙ sym c.is_alone.ensures ∙ c.if-not-is_alone.true in
    let passes : PassesTurns program old.watches.items row.process c.args.machine.now c.pass_on-passed.result =
    subst (λ (ws : List Breakpoints). PassesTurns program ws row.process c.args.machine.now c.pass_on-passed.result) c.as_slice-watches.ensures.value
    gone.unwatched in
    passed-on program at.replay at.made row.process c.pass_on-passed.result c.args.machine.now c.pass_on-passed.new.machine
    at.under_way.after old (
    record {
      alloc = old.alloc;
      variables = old.variables;
      names = old.names;
      bounds = old.bounds;
      watches = old.watches;
      accesses = old.accesses;
      sites = old.sites;
      detector = c.pass.new.self;
    }) at.seen at.known gone.gone passes several refl refl refl refl refl c.pass.ensures row.apart row.entry

pub pass-requires-2 : goal.pass-requires-2
pass-requires-2 c =
    let at = c.requires.ahead in
    let few = few-row c.args.tabled.now.image.now at.replay at.made c.args.row at.left c.args.machine.now at.under_way in
    omega (arith, few, at.known.counted, c.go_on-made.ensures.few)

pub returns-clause-seen : goal.returns-clause-seen
returns-clause-seen c at =
    let program = c.args.tabled.now.image.now in
    let old = c.args.self.now in
    let row = c.args.row in
    let gone = c.go_on-made.ensures in
    let alone : is_alone (run program at.made) ≡ true =
    ap (λ n. nat_le n 1) (sym (as-many program at.replay.cells at.made c.args.machine.now at.under_way.after.after))
    ∙ sym c.is_alone.ensures ∙ c.if-not-is_alone.false in
    gone-on program at.replay at.made row.process c.go_on-made.result c.args.machine.now c.go_on-made.new.machine at.under_way.after
    gone.gone alone old (
    record {
      alloc = old.alloc;
      variables = old.variables;
      names = old.names;
      bounds = old.bounds;
      watches = old.watches;
      accesses = old.accesses;
      sites = old.sites;
      detector = c.pass-2.new.self;
    }) at.seen at.known refl refl refl refl refl c.pass-2.ensures row.apart row.entry
