use Rattle.std.proofs.Common.{◌+◌, drop}
use Rattle.hep_names.specs.Parts.{unknown_target}
use Rattle.hep_names.proofs.Firsts.{turn}
use Rattle.hep_names.proofs.unknown_names.first_unknown_target.Goals as goal
use Rattle.hep_source.proofs.Tests.{drop_at}

pub loop-target-preserved : goal.loop-target-preserved
loop-target-preserved c =
    let xs = c.args.targets.now in
    let i = c.loop-target.target-index in
    turn (unknown_target c.args.symbols.now c.args.line) c.loop-target.first c.unknown_target.result c.first_of_two-first.result _ c.target-item.result (drop i xs) (drop (i + 1) xs)
    c.loop-target.invariant c.first_of_two-first.ensures c.unknown_target.ensures (drop_at xs i c.target-item.result c.loop-target-test.true c.target-item.is)
