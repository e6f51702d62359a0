use Rattle.std.proofs.Common.{◌≤◌, length, nat_eq, arith}
use Rattle.indexmap.specs.IndexSet.{contains}
use Rattle.hep_types.specs.declared.all_ambiguities.Ambiguity.{Ambiguity}
use Rattle.hep_check.proofs.LineSets.{added, gathered}
use Rattle.hep_check.proofs.violation_lines.LineSet.of_ambiguities.Goals as goal

pub loop-ambiguity-preserved : goal.loop-ambiguity-preserved
loop-ambiguity-preserved c = λ line.
    added (λ (a : Ambiguity). nat_eq a.line line) (contains nat_eq c.loop-ambiguity.lines line) (contains nat_eq c.add.new.lines line) _ c.args.found.now c.loop-ambiguity.ambiguity-index _
    c.loop-ambiguity-test.true (c.loop-ambiguity.invariant line) (c.in_ok-add.ensures line)

pub returns : goal.returns
returns c = λ line.
    let le : length c.args.found.now ≤ c.loop-ambiguity.ambiguity-index = omega arith in
    gathered (λ (a : Ambiguity). nat_eq a.line line) (contains nat_eq c.loop-ambiguity.lines line) _ c.args.found.now c.loop-ambiguity.ambiguity-index le (c.loop-ambiguity.invariant line)
