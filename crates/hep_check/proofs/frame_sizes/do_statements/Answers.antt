use Rattle.std.proofs.Common.{◌≤◌, ◌+◌, drop, length, refl, arith}
use Rattle.hep_machine.specs.Variables as variables
use Rattle.hep_check.proofs.FrameSizes.{loops-turn, at-most-one, nothing-left}
use Rattle.hep_check.proofs.frame_sizes.do_statements.Goals as goal
use Rattle.hep_source.proofs.Tests.{drop_at}

pub overflow_add-count : goal.overflow_add-count
overflow_add-count c =
    let one = at-most-one c.loop_count-count.result (variables.is_do c.statement-item.result.form) c.loop_count-count.ensures in
    omega (arith, one, c.loop-statement.invariant.bounded, c.loop-statement-test.true)

pub loop-statement-preserved : goal.loop-statement-preserved
loop-statement-preserved c =
    let ss = c.args.statements.now in
    let i = c.loop-statement.statement-index in
    let s = c.statement-item.result in
    let one = at-most-one c.loop_count-count.result (variables.is_do s.form) c.loop_count-count.ensures in
    record {
      counted = loops-turn c.loop-statement.count c.loop_count-count.result _ s (drop i ss) (drop (i + 1) ss) c.loop-statement.invariant.counted c.loop_count-count.ensures
          (drop_at ss i s c.loop-statement-test.true c.statement-item.is);
      bounded = omega (arith, one, c.loop-statement.invariant.bounded);
    }

pub returns : goal.returns
returns c =
    let ss = c.args.statements.now in
    let i = c.loop-statement.statement-index in
    let k : length ss ≤ i = omega arith in
    nothing-left c.loop-statement.count variables.do_statements ss i k c.loop-statement.invariant.counted refl
