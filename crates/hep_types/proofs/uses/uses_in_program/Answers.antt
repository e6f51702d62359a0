use Rattle.std.proofs.Common.{◌+◌, drop}
use Rattle.hep_conditions.specs.Words.{function_types}
use Rattle.hep_types.specs.Uses.{uses_of}
use Rattle.hep_names.proofs.Firsts.{grow}
use Rattle.hep_types.proofs.uses.uses_in_program.Goals as goal
use Rattle.hep_source.proofs.Tests.{drop_at}

pub loop-symbols-preserved : goal.loop-symbols-preserved
loop-symbols-preserved c =
    let units = c.units-symbols-items.result.now in
    let i = c.loop-symbols.symbols-index in
    grow (uses_of (function_types c.args.program.now) c.args.way) c.loop-symbols.uses.items c.add_uses.new.uses.items _ c.symbols-item.result (drop i units) (drop (i + 1) units)
    c.loop-symbols.invariant c.in_ok-add_uses.ensures (drop_at units i c.symbols-item.result c.loop-symbols-test.true c.symbols-item.is)
