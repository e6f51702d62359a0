use Rattle.std.proofs.Common.{◌≤◌, length, nat_eq, arith}
use Rattle.indexmap.specs.IndexSet.{contains}
use Rattle.hep_check.proofs.LineSets.{added, gathered}
use Rattle.hep_check.proofs.violation_lines.LineSet.new.Goals as goal

pub loop-line-preserved : goal.loop-line-preserved
loop-line-preserved c = λ line.
    added (λ k. nat_eq k line) (contains nat_eq c.loop-line.lines line) (contains nat_eq c.add.new.lines line) _ c.args.found.now c.loop-line.line-index _
    c.loop-line-test.true (c.loop-line.invariant line) (c.in_ok-add.ensures line)

pub returns : goal.returns
returns c = λ line.
    let le : length c.args.found.now ≤ c.loop-line.line-index = omega arith in
    gathered (λ k. nat_eq k line) (contains nat_eq c.loop-line.lines line) _ c.args.found.now c.loop-line.line-index le (c.loop-line.invariant line)
