use Rattle.std.proofs.Common.{◌≡◌, ◌≤◌, ◌<◌, ◌+◌, None, false, true, is_some, [], length, rules, true≢false, refl, sym, ap, ◌∙◌, subst, arith, inl, inr}
use Rattle.std.proofs.lemmas.Bool.{cases_Bool, cases_lt}
use Rattle.hep_source.proofs.Tests.{none-from-not}
use Rattle.hep_machine.specs.Words.{last_process, living, progress_after, schedule_of, State, state_after}
use Rattle.hep_blocked.specs.Rosters.{want_of}
use Rattle.hep_history.specs.Entries.{EntriesLeft}
use Rattle.hep_commit.specs.DecodedImages.{AreTables}
use Rattle.hep_commit.specs.Going.{HasNoMoveAhead, none}
use Rattle.hep_state.specs.Words.{LeavesOthers, snapshot_of}
use Rattle.hep_state.proofs.UnchangedStates.{on-err}
use Rattle.hep_core.specs.Invariant.{CoreInvariant, core_value, placed_value}
use Rattle.hep_core.specs.declared.run_core.Core.TheInside.{Inside}
use Rattle.hep_core.specs.SilentChoices.{AreMoves, IsAtRest, entries_along}
use Rattle.hep_core.specs.Tickets.{is_out}
use Rattle.hep_core.specs.ProcessPlaces.{PlacedCore, places_of}
use Rattle.hep_core.specs.CoreValues.{CoreValue, HasNoStop, IsStop, state_of}
use Rattle.hep_core.proofs.OtherTickets.{AreReadStill, entry-next, next-between, next-itself, next-same}
use Rattle.hep_core.proofs.NextProcesses.{next-levels}
use Rattle.hep_core.proofs.SilentChoices.{IsNext, chosen-so, core-goes-on, core_along, entries-more, home-so, last-along, moves-begun, moves-on, next-alone, next-begun, next-round, next-so, nobody-out, unmoved}
use Rattle.hep_core.proofs.Committing.{DependOnReads}
use Rattle.hep_core.proofs.Histories.{schedule-along, state-is}
use Rattle.hep_core.proofs.GoodTickets.{AreSeen, activations-are, halted-is, some-of}
use Rattle.hep_core.proofs.run_core.Core.move_on.Goals.{After-lives, After-note_all, After-other_next, After-reserve}
use Rattle.hep_core.proofs.run_core.Core.move_on.Goals as goal

pub lives-requires : goal.lives-requires
lives-requires c = c.self.invariant.after.numbers

-- ---- none is made

pub returns-then-is_some-clause-chosen : goal.returns-then-is_some-clause-chosen
returns-then-is_some-clause-chosen c = rw (← c.self.view_is) (moves-begun c.args.rounds c.args.p (core_value c.self.inside))

pub returns-then-is_some-clause-all : goal.returns-then-is_some-clause-all
returns-then-is_some-clause-all c alone fewer = rw (← c.self.view_is) (inl (some-of c.self.inside.stop (sym c.is_some.ensures ∙ c.if-is_some.true)))

pub returns-then-not-lives-clause-chosen : goal.returns-then-not-lives-clause-chosen
returns-then-not-lives-clause-chosen c = rw (← c.self.view_is) (moves-begun c.args.rounds c.args.p (core_value c.self.inside))

pub returns-then-not-lives-clause-all : goal.returns-then-not-lives-clause-all
returns-then-not-lives-clause-all c alone fewer =
    let i = c.self.inside in
    let h = i.history.items in
    let dead : c.lives.result ≡ false = search rules in
    rw (← c.self.view_is) (inr (inl (none-from-not (living (state_after i.image h) c.args.p) (ap (λ (s : State). is_some (living s c.args.p)) (state-is i.image h) ∙ sym (c.lives.ensures.lives i.image i.cells (schedule_of h) c.self.invariant.after.after) ∙ dead))))

-- ---- what is known before

no-stop : (c : After-lives) → c.self.inside.stop ≡ None
no-stop c = search rules

-- a core at no stop isn't halted
goes : (i : Inside) → CoreInvariant i → i.stop ≡ None → i.machine.halted ≡ false
goes i k stop =
    halted-is i.image i.cells i.history.items (snapshot_of i.machine) k.after.after ∙ subst (IsStop i.image i.cells i.limit i.history.items) stop k.named

-- ---- the loop

pub loop-done-init : goal.loop-done-init
loop-done-init c =
    let i = c.self.inside in
    let k = c.self.invariant in
    let none-stops = no-stop (goal.at.loop-done-init c).After-lives in
    let can = c.requires.0 in
    let is = c.in_ok-reserve.ensures in
    let history = c.reserve.new.self in
    let items = c.reserve.ensures.items in
    let lives : c.lives.result ≡ true = search rules in
    let home = subst (λ (v : PlacedCore). is_out c.args.p v.core.out ≡ false) (sym c.self.view_is) (home-so c.args.rounds c.args.p c.args.p c.args.self.now.core c.args.self.now.core can (next-begun c.args.rounds c.args.p c.args.self.now.core can)) in
    let same : c.args.self.now.core ≡ core_value (core_along i history i.machine) = ap (λ (v : PlacedCore). v.core) (sym c.self.view_is) ∙ (λ j. record (core_value i) { history = sym items j }) in
    record {
      kept = core-goes-on c.lists_go_along_with_steps.ensures i c.args.p k none-stops home 0 (schedule_of i.history.items) i.machine history (none (schedule_of i.history.items)) k.after (goes i k none-stops) refl (omega (arith, k.legal.within)) items;
      going = none-stops;
      program = ap (λ (v : PlacedCore). v.core.program) c.self.view_is;
      limit = ap (λ (v : PlacedCore). v.core.limit) c.self.view_is;
      out = ap (λ (v : PlacedCore). v.core.out) c.self.view_is;
      moves = subst (AreMoves c.args.rounds c.args.p c.args.self.now.core 0) same (moves-begun c.args.rounds c.args.p c.args.self.now.core);
      next = subst (IsNext c.args.rounds c.args.p c.args.p) same (next-begun c.args.rounds c.args.p c.args.self.now.core can);
      living = c.lives.ensures.levels lives;
      entries = omega (arith, ap length items, ap (λ (v : PlacedCore). length v.core.history) c.self.view_is);
      few = omega arith;
      alone = λ once. refl;
      free = is.room;
      short = omega (arith, is.few, ap length items);
      still = λ alone. ap (λ (v : PlacedCore). v.places) c.self.view_is;
    }

pub go_on-made-requires-clause-turn : goal.go_on-made-requires-clause-turn
go_on-made-requires-clause-turn c =
    let i = c.loop-done.self-inside in
    let k = c.loop-done.invariant.kept in
    record {
      turn = record { after = (i.cells, schedule_of i.history.items, k.after); running = goes i k c.loop-done.invariant.going; living = c.loop-done.invariant.living };
      tables = subst (AreTables i.image) (sym c.deref.ensures.value) k.tabled;
    }

-- each activation was made by an entry of its own, of which there are less than 2^63
pub go_on-made-requires-clause-countable : goal.go_on-made-requires-clause-countable
go_on-made-requires-clause-countable c =
    let i = c.loop-done.self-inside in
    let k = c.loop-done.invariant.kept in
    let h = i.history.items in
    omega (arith, activations-are i.image i.cells h (snapshot_of i.machine) k.after.after, k.few.activations, c.loop-done.invariant.short, c.at_once-each.ensures.few)

-- no more than there is room for
few-made : (c : After-note_all) → c.loop-done.done + c.go_on-made.result ≤ c.min-room.result
few-made c = elim (cases_Bool c.args.rounds) [
  | inl round ↦ omega (arith, c.at_once-each.ensures.rounds round, c.go_on-made.ensures.few, c.loop-done-test.true)
  | inr alone ↦ omega (arith, c.at_once-each.ensures.alone alone, c.loop-done.invariant.alone alone, c.go_on-made.ensures.few)
]

within : (c : After-note_all) → length c.loop-done.self-inside.history.items + c.go_on-made.result ≤ c.loop-done.self-inside.limit
within c =
    let inv = c.loop-done.invariant in
    omega (arith, few-made c, inv.entries, inv.limit, ap (λ (v : PlacedCore). length v.core.history) c.self.view_is, ap (λ (v : PlacedCore). v.core.limit) c.self.view_is, c.min-room.ensures, c.len.ensures.count, c.self.invariant.legal.within)

home : (c : After-note_all) → is_out c.loop-done.next c.loop-done.self-inside.out.items ≡ false
home c =
    let inv = c.loop-done.invariant in
    subst (λ out. is_out c.loop-done.next out ≡ false) (sym inv.out) (home-so c.args.rounds c.args.p c.loop-done.next c.args.self.now.core (core_value c.loop-done.self-inside) c.requires.0 inv.next)

kept : (c : After-note_all) → (history : EntriesLeft) → history.items ≡ entries_along c.loop-done.self-inside.history.items c.loop-done.next c.go_on-made.result
    → CoreInvariant (core_along c.loop-done.self-inside history c.go_on-made.new.machine)
kept c history is =
    let i = c.loop-done.self-inside in
    let inv = c.loop-done.invariant in
    let done = c.go_on-made.ensures in
    let gone = done.gone i.cells (schedule_of i.history.items) inv.kept.after in
    core-goes-on c.lists_go_along_with_steps.ensures i c.loop-done.next inv.kept inv.going (home c) c.go_on-made.result gone.0 c.go_on-made.new.machine history gone.1 gone.2 done.halted done.made (within c) is

are-seen : (c : After-note_all) → AreSeen c.loop-done.self-inside.image c.loop-done.self-inside.cells
are-seen c =
    let cells = c.loop-done.self-inside.cells in
    let same = ap (λ (v : PlacedCore). v.core.program) c.self.view_is ∙ sym c.loop-done.invariant.program in
    subst (λ program. AreSeen program cells) same (λ choices n. c.views_are_of_states.ensures c.self.inside.image cells choices n c.is_runnable.ensures.accepted c.is_runnable.ensures.main)

moved : (c : After-note_all) → (history : EntriesLeft) → history.items ≡ entries_along c.loop-done.self-inside.history.items c.loop-done.next c.go_on-made.result
    → AreMoves c.args.rounds c.args.p c.args.self.now.core (c.loop-done.done + c.go_on-made.result) (core_value (core_along c.loop-done.self-inside history c.go_on-made.new.machine))
moved c history is =
    let i = c.loop-done.self-inside in
    let inv = c.loop-done.invariant in
    let machine = c.go_on-made.new.machine in
    let made = c.go_on-made.result in
    let gone = c.go_on-made.ensures.gone i.cells (schedule_of i.history.items) inv.kept.after in
    moves-on c.args.rounds c.args.p c.loop-done.next c.args.self.now.core (core_value i) (core_value (core_along i history machine)) c.loop-done.done made inv.moves inv.next
    (λ round. omega (arith, c.at_once-each.ensures.rounds round, c.go_on-made.ensures.few))
    (chosen-so c.lists_go_along_with_steps.ensures i c.loop-done.next inv.kept inv.going (home c) (are-seen c) made gone.0 machine history gone.1 (kept c history is) (within c) is)

-- ---- where it ends

-- what is kept then, of one process
at-rest : (c : After-note_all) → c.args.rounds ≡ false → c.loop-done.done + c.go_on-made.result < c.args.most
    → IsAtRest (core_value (core_along c.loop-done.self-inside c.note_all.new.history c.go_on-made.new.machine)) c.args.p
at-rest c alone fewer =
    let i = c.loop-done.self-inside in
    let inv = c.loop-done.invariant in
    let made = c.go_on-made.result in
    let each = c.at_once-each.ensures.alone alone in
    let machine = c.go_on-made.new.machine in
    let full : made ≡ c.at_once-each.result → length c.note_all.new.history.items ≡ i.limit = λ all. omega (
      arith,
      fewer,
      all,
      each,
      inv.alone alone,
      inv.entries,
      inv.limit,
      ap (λ (v : PlacedCore). length v.core.history) c.self.view_is,
      ap (λ (v : PlacedCore). v.core.limit) c.self.view_is,
      c.min-room.ensures,
      c.len.ensures.count,
      c.self.invariant.legal.within,
      ap length c.note_all.ensures,
      entries-more i.history.items c.loop-done.next made,
    ) in
    elim (cases_lt made c.at_once-each.result) [
      | inl less ↦ inr (inr (inr (
        snapshot_of machine,
        (kept c c.note_all.new.history c.note_all.ensures).after.after,
        subst (λ q. HasNoMoveAhead i.image q (snapshot_of machine)) (next-alone c.args.rounds c.args.p c.loop-done.next (core_value i) alone inv.next) (c.go_on-made.ensures.all less),
      )))
      | inr most ↦ inr (inr (inl (full (omega (arith, most, c.go_on-made.ensures.few)))))
    ]

pub invariant_of-self-then-not-rounds : goal.invariant_of-self-then-not-rounds
invariant_of-self-then-not-rounds c = kept (goal.at.invariant_of-self-then-not-rounds c).After-note_all c.note_all.new.history c.note_all.ensures

pub returns-then-not-rounds-clause-chosen : goal.returns-then-not-rounds-clause-chosen
returns-then-not-rounds-clause-chosen c = moved (goal.at.returns-then-not-rounds-clause-chosen c).After-note_all c.note_all.new.history c.note_all.ensures

pub returns-then-not-rounds-clause-few : goal.returns-then-not-rounds-clause-few
returns-then-not-rounds-clause-few c = omega (arith, few-made (goal.at.returns-then-not-rounds-clause-few c).After-note_all, c.min-room.ensures)

pub returns-then-not-rounds-clause-all : goal.returns-then-not-rounds-clause-all
returns-then-not-rounds-clause-all c alone fewer = at-rest (goal.at.returns-then-not-rounds-clause-all c).After-note_all alone fewer

pub invariant_of-self-then-made-eq0 : goal.invariant_of-self-then-made-eq0
invariant_of-self-then-made-eq0 c = kept (goal.at.invariant_of-self-then-made-eq0 c).After-note_all c.note_all.new.history c.note_all.ensures

pub returns-then-made-eq0-clause-chosen : goal.returns-then-made-eq0-clause-chosen
returns-then-made-eq0-clause-chosen c = moved (goal.at.returns-then-made-eq0-clause-chosen c).After-note_all c.note_all.new.history c.note_all.ensures

pub returns-then-made-eq0-clause-few : goal.returns-then-made-eq0-clause-few
returns-then-made-eq0-clause-few c = omega (arith, few-made (goal.at.returns-then-made-eq0-clause-few c).After-note_all, c.min-room.ensures)

pub returns-then-made-eq0-clause-all : goal.returns-then-made-eq0-clause-all
returns-then-made-eq0-clause-all c alone fewer = at-rest (goal.at.returns-then-made-eq0-clause-all c).After-note_all alone fewer

-- the entries, once there is room for one more
noted : (c : After-other_next) → c.other_next.new.history.items ≡ entries_along c.loop-done.self-inside.history.items c.loop-done.next c.go_on-made.result
noted c = c.other_next.ensures.items ∙ c.note_all.ensures

pub invariant_of-self-in-None : goal.invariant_of-self-in-None
invariant_of-self-in-None c =
    let at = goal.at.invariant_of-self-in-None c in
    kept at.After-note_all c.other_next.new.history (noted at.After-other_next)

pub returns-in-None-clause-chosen : goal.returns-in-None-clause-chosen
returns-in-None-clause-chosen c =
    let at = goal.at.returns-in-None-clause-chosen c in
    moved at.After-note_all c.other_next.new.history (noted at.After-other_next)

pub loop-done-preserved : goal.loop-done-preserved
loop-done-preserved c =
    let at = goal.at.loop-done-preserved c in
    let i = c.loop-done.self-inside in
    let inv = c.loop-done.invariant in
    let made = c.go_on-made.result in
    let machine = c.go_on-made.new.machine in
    let history = c.other_next.new.history in
    let items = noted at.After-other_next in
    let now = core_along i history machine in
    let keeps = kept at.After-note_all history items in
    let round : c.args.rounds ≡ true = search rules in
    let once : made ≡ 1 = omega (arith, c.at_once-each.ensures.rounds round, c.go_on-made.ensures.few) in
    let found = c.in-Some.ensures in
    let nobody : i.out.items ≡ [] = inv.out ∙ nobody-out c.args.rounds c.args.p c.args.self.now.core round c.requires.0 in
    let last : last_process history.items ≡ c.loop-done.next = ap last_process items ∙ last-along i.history.items c.loop-done.next made (omega (arith, once)) in
    let same = c.lists_are_those_of_definitions.ensures.ready i.image i.cells i.roster.last (schedule_of history.items) (progress_after i.image history.items) (want_of i.roster.waiting) i.roster.ready keeps.listed c.other_next.ensures.rising in
    let many : length history.items ≡ length i.history.items + made = ap length items ∙ entries-more i.history.items c.loop-done.next made in
    record {
      kept = keeps;
      going = inv.going;
      program = inv.program;
      limit = inv.limit;
      out = inv.out;
      moves = moved at.After-note_all history items;
      next = next-round c.args.rounds c.args.p c.in-Some.other (core_value now) round (next-so now c.loop-done.next c.in-Some.other nobody last same found.next);
      living = next-levels now.image now.cells history.items (want_of i.roster.waiting) i.roster.ready keeps.listed (snapshot_of machine) c.loop-done.next c.in-Some.other keeps.after.after found.next;
      entries = omega (arith, many, inv.entries);
      few = few-made at.After-note_all;
      alone = λ alone. absurd (true≢false (sym round ∙ alone));
      free = found.room.0;
      short = omega (arith, found.room.1, c.at_once-each.ensures.rounds round);
      still = λ alone. absurd (true≢false (sym round ∙ alone));
    }

-- ---- what comes next of other processes, where the choices are of one

pub returns-then-is_some-clause-others : goal.returns-then-is_some-clause-others
returns-then-is_some-clause-others c alone = next-itself c.args.p c.args.self.now c.args.self.now refl

pub returns-then-not-lives-clause-others : goal.returns-then-not-lives-clause-others
returns-then-not-lives-clause-others c alone = next-itself c.args.p c.args.self.now c.args.self.now refl

-- where no more than room was made for entries, nothing has changed
reserved-same : (c : After-reserve) → placed_value (record c.self.inside { history = c.reserve.new.self }) ≡ c.args.self.now
reserved-same c =
    (λ j. record { core = record (core_value c.self.inside) { history = c.reserve.ensures.items j }; places = places_of c.self.inside.image (snapshot_of c.self.inside.machine) }) ∙ c.self.view_is

pub returns-in_err-reserve-clause-refused : goal.returns-in_err-reserve-clause-refused
returns-in_err-reserve-clause-refused c = on-err c.from_residual.result c.from_residual.ensures.0 (reserved-same (goal.at.returns-in_err-reserve-clause-refused c).After-reserve)

pub returns-in_err-reserve-clause-others : goal.returns-in_err-reserve-clause-others
returns-in_err-reserve-clause-others c alone = next-itself c.args.p c.args.self.now _ (reserved-same (goal.at.returns-in_err-reserve-clause-others c).After-reserve)

-- none was made before
begun-same : (c : After-note_all) → c.args.rounds ≡ false → core_value c.loop-done.self-inside ≡ c.args.self.now.core
begun-same c alone =
    let inv = c.loop-done.invariant in
    let moves = subst (λ rounds. AreMoves rounds c.args.p c.args.self.now.core c.loop-done.done (core_value c.loop-done.self-inside)) alone inv.moves in
    sym (unmoved c.args.p c.args.self.now.core c.loop-done.done (core_value c.loop-done.self-inside) (inv.alone alone) moves)

pub returns-then-not-rounds-clause-others : goal.returns-then-not-rounds-clause-others
returns-then-not-rounds-clause-others c alone =
    let at = (goal.at.returns-then-not-rounds-clause-others c).After-note_all in
    let i = c.loop-done.self-inside in
    let inv = c.loop-done.invariant in
    let p = c.args.p in
    let n = c.go_on-made.result in
    let m = c.go_on-made.new.machine in
    let es = c.note_all.new.history.items in
    let now = record i { history = c.note_all.new.history; machine = m } in
    let same = begun-same at alone in
    let own : c.loop-done.next ≡ p = next-alone c.args.rounds p c.loop-done.next (core_value i) alone inv.next in
    let law : AreReadStill = c.others_leave_what_is_read.ensures in
    let depend : DependOnReads = record { kept = c.segments_depend_on_reads.ensures.kept; made = c.segments_depend_on_reads.ensures.made } in
    let going : HasNoStop (core_value i) = (inv.going, subst (IsStop i.image i.cells i.limit i.history.items) inv.going inv.kept.named) in
    let entries = c.note_all.ensures ∙ ap (λ q. entries_along i.history.items q n) own in
    let turns = ap schedule_of entries ∙ schedule-along i.history.items p n in
    let stay = subst (λ q. LeavesOthers q (snapshot_of i.machine) (snapshot_of m)) own c.go_on-made.ensures.others in
    let leaves = entry-next law depend i inv.kept going p n es turns m (kept at c.note_all.new.history c.note_all.ensures).after stay (core_value now) refl in
    next-between p c.args.self.now (placed_value i) (placed_value now) (placed_value now) (inv.still alone) inv.program (ap (λ (v : CoreValue). state_of v) same) leaves refl refl refl refl

pub returns-then-made-eq0-clause-others : goal.returns-then-made-eq0-clause-others
returns-then-made-eq0-clause-others c alone = let round : c.args.rounds ≡ true = search rules in absurd (true≢false (sym round ∙ alone))

pub returns-in-None-clause-others : goal.returns-in-None-clause-others
returns-in-None-clause-others c alone = let round : c.args.rounds ≡ true = search rules in absurd (true≢false (sym round ∙ alone))

pub returns-clause-others : goal.returns-clause-others
returns-clause-others c alone =
    let i = c.loop-done.self-inside in
    let inv = c.loop-done.invariant in
    let moves = subst (λ rounds. AreMoves rounds c.args.p c.args.self.now.core c.loop-done.done (core_value i)) alone inv.moves in
    let same = unmoved c.args.p c.args.self.now.core c.loop-done.done (core_value i) (inv.alone alone) moves in
    next-same c.args.p c.args.self.now (placed_value i) (inv.still alone) inv.program (ap (λ (v : CoreValue). state_of v) (sym same))
