use Rattle.std.proofs.Common.{◌≡◌, ◌+◌, ◌-◌, ap, sym, ◌∙◌, arith}
use Rattle.hep_fold.specs.declared.turn_row.TurnRow.{TurnRow}
use Rattle.hep_fold.specs.Observers.{later_row, row_turns}
use Rattle.hep_fold.specs.Turns.{number_after, turns_in_row}
use Rattle.hep_fold.proofs.Folding.{fold-both, fold-on, same-before, same-behind, same-first}
use Rattle.hep_fold.proofs.TurnRows.{row-further, row-whole}
use Rattle.hep_fold.proofs.history_fold.make_row.Goals as goal

pub loop-made-init : goal.loop-made-init
loop-made-init g c =
    let row = c.args.row in
    record {
      few = omega arith;
      there = same-first (row-whole row) c.requires.ahead;
      folds = same-behind (row_turns row) (row-whole row) (λ replay total left h. h);
    }

pub make_turns-requires-clause-ahead : goal.make_turns-requires-clause-ahead
make_turns-requires-clause-ahead g c = same-first (sym (ap row_turns c.after.ensures)) c.loop-made.invariant.there

pub loop-made-preserved : goal.loop-made-preserved
loop-made-preserved g c =
    let row = c.args.row in
    let made = c.loop-made.made in
    let done = c.in_ok-made.ensures in
    let more = c.in_ok-made.field-0 in
    let now = row_turns (later_row row made) in
    let then = row_turns (later_row row (made + more)) in
    let rest = ap (λ (r : TurnRow). row_turns (later_row r more)) c.after.ensures ∙ row-further row made more in
    let next = same-before then (ap row_turns c.after.ensures) (same-behind (row_turns c.after.result) rest done.made) in
    let left : c.after.result.count ≡ row.count - made = ap (λ (r : TurnRow). r.count) c.after.ensures in
    record {
      few = omega (arith, done.few, left, c.loop-made-test.true);
      there = fold-on now then next c.loop-made.invariant.there;
      folds = fold-both (row_turns row) now then c.loop-made.invariant.folds next;
    }

pub returns : goal.returns
returns g c =
    let row = c.args.row in
    let none : row.count - c.loop-made.made ≡ 0 = omega (arith, c.loop-made-test.false) in
    same-behind (row_turns row) (ap (λ k. turns_in_row row.apart (number_after row.apart row.entry c.loop-made.made) row.process k) none)
    c.loop-made.invariant.folds
