use Rattle.std.proofs.Common.{◌≡◌, ◌+◌, ◌-◌, ◌++◌, [], ℕ, List, ap, replicate, sym, refl, ◌∙◌, arith}
use Rattle.hep_history.specs.Runs.{entry_of}
use Rattle.hep_fold.specs.Turns.{turns_from, turns_of}
use Rattle.hep_fold.proofs.Folding.{first-part, fold-both, fold-on, part-made, same-before, same-behind, same-first}
use Rattle.hep_fold.proofs.TurnRows.{row-alike, row-of-run, run-next, run-whole}
use Rattle.hep_fold.proofs.history_fold.make_run.Goals as goal

pub make_row-requires-clause-ahead : goal.make_row-requires-clause-ahead
make_row-requires-clause-ahead g c = same-first (row-of-run c.args.run c.args.number c.if-run-eq1.true) c.requires.ahead

pub returns-then-run-eq1 : goal.returns-then-run-eq1
returns-then-run-eq1 g c = same-before [] (sym (row-of-run c.args.run c.args.number c.if-run-eq1.true)) c.in_ok-make_row.ensures

pub loop-before-init : goal.loop-before-init
loop-before-init g c =
    let e = entry_of c.args.run in
    let n = c.args.run.count in
    let all = run-whole n c.args.number e in
    record {
      there = same-first all c.requires.ahead;
      folds = same-behind (turns_from c.args.number (replicate n e)) all (λ replay total left h. h);
    }

pub make_row-requires-in-loop-before-clause-ahead : goal.make_row-requires-in-loop-before-clause-ahead
make_row-requires-in-loop-before-clause-ahead g c =
    let e = entry_of c.args.run in
    let n = c.args.run.count in
    let i = c.loop-before.before in
    let number = c.args.number in
    same-first (sym (row-alike c.args.run.steps (number + i) c.args.run.process)) (
    first-part (turns_from (number + i) (replicate (n - i) e)) (turns_of (number + i) e) (turns_from (number + (i + 1)) (replicate (n - (i + 1)) e))
    (λ left. run-next n i number e e left c.loop-before-test.true refl) c.loop-before.invariant.there)

pub loop-before-preserved : goal.loop-before-preserved
loop-before-preserved g c =
    let e = entry_of c.args.run in
    let n = c.args.run.count in
    let i = c.loop-before.before in
    let number = c.args.number in
    let now = turns_from (number + i) (replicate (n - i) e) in
    let then = turns_from (number + (i + 1)) (replicate (n - (i + 1)) e) in
    let next =
    part-made now (turns_of (number + i) e) then (λ left. run-next n i number e e left c.loop-before-test.true refl) (
    same-before [] (row-alike c.args.run.steps (number + i) c.args.run.process) c.in_ok-make_row-2.ensures) in
    record {
      there = fold-on now then next c.loop-before.invariant.there;
      folds = fold-both (turns_from number (replicate n e)) now then c.loop-before.invariant.folds next;
    }

pub returns : goal.returns
returns g c =
    let e = entry_of c.args.run in
    let n = c.args.run.count in
    let none : n - c.loop-before.before ≡ 0 = omega (arith, c.loop-before-test.false) in
    same-behind (turns_from c.args.number (replicate n e))
    (ap (λ k. turns_from (c.args.number + c.loop-before.before) (replicate k e)) none) c.loop-before.invariant.folds
