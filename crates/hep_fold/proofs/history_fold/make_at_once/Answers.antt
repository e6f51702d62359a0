use Rattle.std.proofs.Common.{◌≤◌, ◌++◌, ◌∙◌, List, ap, arith, replicate, subst}
use Rattle.hep_advance.proofs.RunsToBreakpoint.{turns-are}
use Rattle.hep_machine.specs.declared.event.Entry.{Entry}
use Rattle.hep_machine.specs.Words.{schedule_of}
use Rattle.hep_state.specs.Words.{IsMachineAfter, snapshot_of}
use Rattle.hep_fold.specs.ReplayMachines.{made_by}
use Rattle.hep_fold.specs.Observers.{row_turns}
use Rattle.hep_fold.specs.Turns.{turns_in_row}
use Rattle.hep_fold.proofs.Folding.{ahead, can-go-row, folded-row, left_of_row, row-parts}
use Rattle.hep_fold.proofs.MachineTurns.{can-go}
use Rattle.hep_fold.proofs.TurnRows.{schedule-many}
use Rattle.hep_fold.proofs.history_fold.make_at_once.Goals as goal

pub go_on-made-requires-clause-turn : goal.go_on-made-requires-clause-turn
go_on-made-requires-clause-turn g c =
    let there = c.requires.ahead in
    let again = c.args.again.now in
    let tabled = c.args.tabled.now in
    let can =
    can-go-row g.O.Observer.knows g.O.Observer.see tabled there.0 there.1 again
    c.args.observer.now c.args.row there.2 c.requires.some there.3 in
    record {
      turn = can-go tabled c.args.row.process again can;
      countable = omega (
        arith,
        c.activations_are_few.ensures.activations tabled.image.now can.turn.cells (made_by again) (snapshot_of again.machine) can.turn.after.after,
        can.turn.few,
        c.min-few.ensures,
      );
    }

pub go_on-made-requires-clause-ahead : goal.go_on-made-requires-clause-ahead
go_on-made-requires-clause-ahead g c =
    let there = c.requires.ahead in
    let row = c.args.row in
    let few : c.min-few.result ≤ row.count = omega (arith, c.min-few.ensures) in
    ahead g.O.Observer.knows g.O.Observer.see c.args.tabled.now there.0 there.1 c.args.again.now c.args.observer.now
    (row_turns row ++ there.2) (turns_in_row row.apart row.entry row.process c.min-few.result) (left_of_row row there.2 c.min-few.result)
    (row-parts row there.2 c.min-few.result few) there.3

pub push_many-requires-clause-few : goal.push_many-requires-clause-few
push_many-requires-clause-few g c = omega (arith, c.in_ok-reserve.ensures.few, c.go_on-made.ensures.few)

pub returns-clause-made : goal.returns-clause-made
returns-clause-made g c replay total left h =
    let row = c.args.row in
    let p = row.process in
    let again = c.args.again.now in
    let tabled = c.args.tabled.now in
    let program = tabled.image.now in
    let made = c.go_on-made.result in
    let entry : Entry = record { process = p; steps = 1 } in
    let few : c.min-few.result ≤ row.count = omega (arith, c.min-few.ensures) in
    let there = c.go_on-made.ensures.gone replay.cells (made_by again) h.under_way.after in
    folded-row g.O.Observer.knows g.O.Observer.see tabled replay total again c.args.observer.now row left c.requires.some h
    made (omega (arith, c.go_on-made.ensures.few, few))
    (record again { machine = c.go_on-made.new.machine; history = c.push_many.new.self }) c.go_on-made.new.self
    (ap schedule_of (c.push_many.ensures.items ∙ ap (λ (es : List Entry). es ++ replicate made entry) c.in_ok-reserve.ensures.items) ∙ schedule-many again.history.items p made)
    (subst (λ ps. IsMachineAfter program replay.cells ps c.go_on-made.new.machine) (turns-are program replay.cells p (made_by again) made there.0 there.1) there.2)
    (omega (arith, h.numbers, c.go_on-made.ensures.made))
    (c.go_on-made.ensures.seen (
    ahead g.O.Observer.knows g.O.Observer.see tabled replay total again c.args.observer.now
    (row_turns row ++ left) (turns_in_row row.apart row.entry p c.min-few.result)
    (left_of_row row left c.min-few.result) (row-parts row left c.min-few.result few) h))

pub returns-clause-few : goal.returns-clause-few
returns-clause-few g c = omega (arith, c.go_on-made.ensures.few, c.min-few.ensures)
