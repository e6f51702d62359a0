use Rattle.std.proofs.Common.{[], subst}
use Rattle.hep_machine.specs.Words.{run, schedule_of}
use Rattle.hep_state.specs.Words.{IsMachineAfter}
use Rattle.hep_fold.specs.Folds.{entries_before, replay_of, turns_within}
use Rattle.hep_fold.proofs.Beginnings.{folding-ends, folding-starts, made-all, total_of}
use Rattle.hep_fold.proofs.history_fold.fold_range.Goals as goal

pub make_range-requires-clause-ahead : goal.make_range-requires-clause-ahead
make_range-requires-clause-ahead g c =
    let range = c.args.range.now in
    let tabled = c.args.tabled.now in
    let program = tabled.image.now in
    let cells = c.requires.0 in
    let seen = c.requires.1 in
    let h = c.requires.2 in (
      replay_of cells range,
      total_of g.O.Observer.see program (run program (schedule_of (entries_before range))) (turns_within range) seen,
      [],
      folding-starts g.O.Observer.knows g.O.Observer.see tabled cells range h.start.possible c.args.again.now c.args.observer.now seen h,
    )

pub make_range-requires-clause-order : goal.make_range-requires-clause-order
make_range-requires-clause-order g c = c.requires.2.start.possible.order

pub make_range-requires-clause-within : goal.make_range-requires-clause-within
make_range-requires-clause-within g c = c.requires.2.start.possible.within

pub returns-clause-made : goal.returns-clause-made
returns-clause-made g c cells seen h =
    let range = c.args.range.now in
    let tabled = c.args.tabled.now in
    let program = tabled.image.now in
    let total = total_of g.O.Observer.see program (run program (schedule_of (entries_before range))) (turns_within range) seen in
    let can = h.start.possible in
    let done = c.in_ok-make_range.ensures (replay_of cells range) total [] (
    folding-starts g.O.Observer.knows g.O.Observer.see tabled cells range can c.args.again.now c.args.observer.now seen h) in
    subst (λ ps. IsMachineAfter program cells ps c.make_range.new.again.machine)
    (made-all program cells range can c.make_range.new.again done.under_way) done.under_way.after

pub returns-clause-seen : goal.returns-clause-seen
returns-clause-seen g c cells seen h =
    let range = c.args.range.now in
    let tabled = c.args.tabled.now in
    let program = tabled.image.now in
    let total = total_of g.O.Observer.see program (run program (schedule_of (entries_before range))) (turns_within range) seen in
    let can = h.start.possible in
    folding-ends g.O.Observer.knows g.O.Observer.see tabled cells range can total c.make_range.new.again c.make_range.new.observer (
    c.in_ok-make_range.ensures (replay_of cells range) total [] (
    folding-starts g.O.Observer.knows g.O.Observer.see tabled cells range can c.args.again.now c.args.observer.now seen h))
