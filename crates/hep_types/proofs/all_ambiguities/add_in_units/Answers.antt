use Rattle.std.proofs.Common.{◌+◌, drop}
use Rattle.hep_conditions.specs.Words.{function_types}
use Rattle.hep_names.proofs.Firsts.{grow}
use Rattle.hep_source.proofs.Tests.{drop_at}
use Rattle.hep_types.specs.Ambiguities.{ambiguous_in}
use Rattle.hep_types.proofs.all_ambiguities.add_in_units.Goals as goal

pub loop-symbols-preserved : goal.loop-symbols-preserved
loop-symbols-preserved c =
    let xs = c.units-symbols-items.result.now in
    let i = c.loop-symbols.symbols-index in
    grow (ambiguous_in (function_types c.args.program.now)) c.loop-symbols.found.items c.add_in_unit.new.found.items _ c.symbols-item.result (drop i xs) (drop (i + 1) xs) c.loop-symbols.invariant
    c.in_ok-add_in_unit.ensures (drop_at xs i c.symbols-item.result c.loop-symbols-test.true c.symbols-item.is)
