use Rattle.std.proofs.Common.{◌≡◌, ◌||◌, ℕ, nat_eq, ◌≤◌, ◌∙◌, ◌∷◌, ap, arith, sym, subst, [], true≢false}
use Rattle.hep_machine.specs.Words.{IsLegal, is_held, is_number_among, schedule_of, state_after, progress_after, view_of}
use Rattle.hep_blocked.specs.RosterUpdates.{AreListed}
use Rattle.hep_blocked.specs.Rosters.{want_of}
use Rattle.hep_blocked.proofs.KeptNeeds.{listed-alike}
use Rattle.hep_state.specs.Words.{IsMachineAfter, snapshot_of}
use Rattle.hep_views.specs.MachineViews.{machine_view}
use Rattle.hep_core.specs.Tickets.{is_out}
use Rattle.hep_core.specs.Invariant.{AreFew}
use Rattle.hep_core.specs.CoreValues.{opening_of}
use Rattle.hep_core.proofs.Histories.{few-none, legal-none, progress-none, schedule-none}
use Rattle.hep_core.proofs.GoodTickets.{AreSeen, laid-out, opening-goes, view-is}
use Rattle.hep_core.proofs.run_core.Core.new.Goals as goal

pub invariant_of-result : goal.invariant_of-result
invariant_of-result c =
    let program = c.args.image in
    let m = c.in_ok-machine.machine in
    let none = sym c.new.ensures.items in
    let after = subst (λ ps. IsMachineAfter program c.args.cells ps m) (sym schedule-none) c.in_ok-machine.ensures.opened in
    let ready : (q : ℕ) → is_number_among q c.enroll.new.self.ready ≡ is_number_among q (1 ∷ []) = λ q.
    c.enroll.ensures.ready q ∙ ap (λ b. nat_eq q 1 || b) (c.reserve.ensures.kept.ready q ∙ ap (is_number_among q) c.new-roster.ensures.ready) in
    let waiting : (q : ℕ) → want_of c.enroll.new.self.waiting q ≡ want_of [] q = λ q.
    c.enroll.ensures.waiting q ∙ c.reserve.ensures.kept.waiting q ∙ ap (λ ws. want_of ws q) c.new-roster.ensures.waiting in
    let opened : AreListed program c.args.cells (schedule_of []) (progress_after program []) (want_of []) (1 ∷ []) =
    subst (λ ps. AreListed program c.args.cells ps (progress_after program []) (want_of []) (1 ∷ [])) (sym schedule-none) (
    subst (λ x. AreListed program c.args.cells [] x (want_of []) (1 ∷ [])) (sym (progress-none program)) (c.openings_list_nobody.ensures program c.args.cells)) in
    let listed = listed-alike program c.args.cells (schedule_of []) (progress_after program []) (want_of []) (want_of c.enroll.new.self.waiting) (1 ∷ []) c.enroll.new.self.ready opened waiting ready in
    record {
      after = subst (λ es. IsMachineAfter program c.args.cells (schedule_of es) m) none after;
      listed = subst (λ es. AreListed program c.args.cells (schedule_of es) (progress_after program es) (want_of c.enroll.new.self.waiting) c.enroll.new.self.ready) none listed;
      room = record {
        room = omega (arith, c.in_ok-machine.ensures.alone, c.in_ok-reserve.ensures.room, c.enroll.ensures.room);
        last = omega (arith, c.in_ok-machine.ensures.alone, c.enroll.ensures.last);
      };
      legal = subst (IsLegal program c.args.cells c.args.steps) none (legal-none program c.args.cells c.args.steps (laid-out program c.args.cells [] (snapshot_of m) after.after));
      few = subst (AreFew program) none (few-none program);
      named = subst (λ es. (state_after program es).halted ≡ _) none (opening-goes program);
      living = λ q away. absurd (true≢false (sym away ∙ ap (is_out q) c.new-2.ensures.items));
      tabled = c.in_ok-tables.ensures;
      owned = c.in_ok-own.ensures;
    }

pub returns-clause-made : goal.returns-clause-made
returns-clause-made c =
    let program = c.args.image in
    let m = c.in_ok-machine.machine in
    let none = c.new.ensures.items in
    let after = subst (λ ps. IsMachineAfter program c.args.cells ps m) (sym schedule-none) c.in_ok-machine.ensures.opened in
    let seen : AreSeen program c.args.cells = λ choices n. c.views_are_of_states.ensures program c.args.cells choices n c.is_runnable.ensures.accepted c.is_runnable.ensures.main in
    let view : machine_view program (snapshot_of m) ≡ view_of program is_held (state_after program []) = view-is program c.args.cells [] (snapshot_of m) after.after seen in
    λ j. record (opening_of program c.args.cells c.args.steps) { history = none j; view = view j; out = c.new-2.ensures.items j }

pub enroll-requires-clause-later : goal.enroll-requires-clause-later
enroll-requires-clause-later c = omega (arith, c.reserve.ensures.kept.last, c.new-roster.ensures.last)

pub enroll-requires-clause-room : goal.enroll-requires-clause-room
enroll-requires-clause-room c = omega (arith, c.in_ok-reserve.ensures.room)
