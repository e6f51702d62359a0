use Rattle.std.proofs.Common.{rules, ◌≡◌, ◌<◌, length, arith}
use Rattle.hep_warnings.proofs.TakenWarnings.{next, over_empty, over_none}
use Rattle.hep_warnings.proofs.past_column_72.behind_warnings.Goals as goal
use Rattle.hep_warnings.proofs.past_column_72.behind_warnings.Goals.{then-loop-left-test+else-not-is_empty, else-loop-left-test}

pub loop-left-preserved : goal.loop-left-preserved
loop-left-preserved c =
    let e = c.loop-left-test.true in
    let h : 0 < c.loop-left.left = omega arith in
    let n = c.loop-left.invariant.0 in (
      omega arith,
      next c.loop-left.number c.loop-left.left c.next_line.result.0.now _ _ c.loop-left.found.items _ _ h c.next_line.ensures.cut
          c.in_ok-add_line.ensures c.loop-left.invariant.1,
    )

pub returns : goal.returns
returns c = elim c.loop-left-test.branch [
  | then-loop-left-test+else-not-is_empty w ↦
      let empty : length c.loop-left.rest.now ≡ 0 = search rules in
      over_empty c.loop-left.number c.loop-left.left c.loop-left.rest.now c.loop-left.found.items _ empty c.loop-left.invariant.1
  | else-loop-left-test w ↦
      let e = w.loop-left-test.false in
      let none : c.loop-left.left ≡ 0 = omega arith in
      over_none c.loop-left.number c.loop-left.left _ c.loop-left.found.items _ none c.loop-left.invariant.1
]
