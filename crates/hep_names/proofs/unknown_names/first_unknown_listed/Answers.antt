use Rattle.std.proofs.Common.{◌+◌, ap, drop, map}
use Rattle.hep_names.specs.Lists.{listed}
use Rattle.hep_names.specs.Parts.{unknown_listed}
use Rattle.hep_names.proofs.Firsts.{turn}
use Rattle.hep_names.proofs.unknown_names.first_unknown_listed.Goals as goal
use Rattle.hep_source.proofs.Tests.{drop_at}

pub loop-name-preserved : goal.loop-name-preserved
loop-name-preserved c =
    let xs = c.args.names.now in
    let i = c.loop-name.name-index in
    turn (unknown_listed c.args.program.now c.args.symbols.now c.args.line) c.loop-name.first c.unknown_listed.result c.first_of_two-first.result _ (listed c.name-item.result) (map listed (drop i xs)) (map listed (drop (i + 1) xs))
    c.loop-name.invariant c.first_of_two-first.ensures c.unknown_listed.ensures (ap (map listed) (drop_at xs i c.name-item.result c.loop-name-test.true c.name-item.is))
